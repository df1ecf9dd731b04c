-- The list of frequencies, looked through from a place on. Assumes nothing.
use Rattle.std.specs.Prelude.{Ok, Err}
use mathlib.Core.Path.{◌≡◌, refl, sym, ap, ◌∙◌}
use mathlib.Core.List.{List, [], ◌∷◌}
use mathlib.Core.Bool.{Bool, true, false}
use Prim.Native.Nat.{ℕ, suc, ◌+◌, ◌≤◌, ◌<◌}
use native.Mathlib.Numerals.{add-one}
use native.Mathlib.Omega.{arith}
use lib.ListN.{length, get_or, drop}
use lib.Seq.{drop-cons, drop-length}
use lib.Dec.{eqb}
use Rattle.numbers.specs.Field.{when}
use Rattle.numbers.specs.declared.Refusal.TheVariants as refusal
use Rattle.numbers.proofs.Chain.{is_eq, is_ne}
use Rattle.audio.specs.Frequencies.{place_of}

module _ (f : ℕ) (xs : List ℕ) (i x : ℕ) (h : i < length xs) (e : x ≡ get_or xs i 0) where
  here : place_of f (drop i xs) i ≡ when (eqb x f) (Ok i) (place_of f (drop (suc i) xs) (suc i))
  unfolding place_of
  here = ap (λ l. place_of f l i) (drop-cons xs i 0 h) ∙ ap (λ y. when (eqb y f) (Ok i) (place_of f (drop (suc i) xs) (suc i))) (sym e)

  pub found : x ≡ f → Ok i ≡ place_of f (drop i xs) i
  found t = is_eq _ _ _ _ _ t refl ∙ sym here

  pub further : (x ≡ f → ⊥) → place_of f (drop (i + 1) xs) (i + 1) ≡ place_of f (drop i xs) i
  further t = ap (λ n. place_of f (drop n xs) n) (add-one i) ∙ is_ne _ _ _ _ _ t refl ∙ sym here

pub nowhere : (f : ℕ) (xs : List ℕ) (i : ℕ) → i ≡ length xs → Err (refusal.Value 0) ≡ place_of f (drop i xs) i
unfolding place_of
nowhere f xs i e = sym (ap (λ n. place_of f (drop n xs) i) e ∙ ap (λ l. place_of f l i) (drop-length xs))
