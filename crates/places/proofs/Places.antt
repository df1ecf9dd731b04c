-- The table of places, looked through from a place on. Assumes nothing.
use mathlib.Core.Path.{◌≡◌, refl, sym, ap, ◌∙◌}
use mathlib.Core.List.{List, [], ◌∷◌}
use mathlib.Core.Bool.{Bool, true, false, ◌&&◌}
use Prim.Native.Nat.{ℕ, suc, ◌+◌, ◌≤◌, ◌<◌}
use native.Mathlib.Numerals.{add-one}
use native.Mathlib.Omega.{arith}
use lib.ListN.{length, get_or, drop}
use lib.Seq.{drop-cons, drop-length}
use lib.Dec.{eqb}
use Rattle.numbers.specs.Field.{when}
use Rattle.numbers.proofs.Chain.{by-true, by-false}
use Rattle.places.specs.Places.{listed, place, file}
use Rattle.places.specs.declared.table.Place.{Place}

module _ (home kind : ℕ) (ps : List Place) (i : ℕ) (d p : Place) (h : i < length ps) (e : p ≡ get_or ps i d) where
  here : listed home kind (drop i ps) ≡ when (◌&&◌ (eqb p.0 home) (eqb p.1 kind)) true (listed home kind (drop (suc i) ps))
  unfolding listed
  here = ap (listed home kind) (drop-cons ps i d h) ∙ ap (λ x. when (◌&&◌ (eqb x.0 home) (eqb x.1 kind)) true (listed home kind (drop (suc i) ps))) (sym e)

  pub there : ◌&&◌ (eqb p.0 home) (eqb p.1 kind) ≡ true → true ≡ listed home kind (drop i ps)
  there t = by-true _ _ _ _ t refl ∙ sym here

  pub not_there : ◌&&◌ (eqb p.0 home) (eqb p.1 kind) ≡ false → listed home kind (drop (i + 1) ps) ≡ listed home kind (drop i ps)
  not_there t = ap (λ n. listed home kind (drop n ps)) (add-one i) ∙ by-false _ _ _ _ t refl ∙ sym here

pub none_left : (home kind : ℕ) (ps : List Place) (i : ℕ) → i ≡ length ps → false ≡ listed home kind (drop i ps)
unfolding listed
none_left home kind ps i e = sym (ap (λ n. listed home kind (drop n ps)) e ∙ ap (listed home kind) (drop-length ps))
