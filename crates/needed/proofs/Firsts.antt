-- The first row that tells something, row after row. Assumes nothing.
use mathlib.Core.Path.{◌≡◌, refl, sym, ap, ◌∙◌}
use mathlib.Core.Bool.{Bool, true, false}
use Prim.Native.Nat.{ℕ, zero, suc, ◌+◌, ◌<◌, ◌≤◌}
use native.Mathlib.Numerals.{add-one}
use native.Mathlib.Omega.{arith}
use lib.Dec.{ltb}
use borrow.Author.Tests.{ltb-true, ltb-false}
use Rattle.numbers.specs.Field.{when}
use Rattle.numbers.proofs.Chain.{by-true, by-false, is_eq, is_ne}
use Rattle.needed.specs.First.{or_else, first, row_of}

pub first-none : (f : ℕ → ℕ) → first f 0 ≡ 0
unfolding first
first-none f = refl

pub first_next : (f : ℕ → ℕ) (j x : ℕ) → first f j ≡ 0 → x ≡ f j → x ≡ 0 → first f (j + 1) ≡ 0
unfolding first
first_next f j x e g h = ap (first f) (add-one j) ∙ sym (is_eq _ _ _ (first f j) 0 e (sym h ∙ g))

-- the first that tells something is found from any row behind it
pub first-at : (f : ℕ → ℕ) (i j x : ℕ) → j < i → first f j ≡ 0 → x ≡ f j → (x ≡ 0 → ⊥) → x ≡ first f i
unfolding first
first-at f zero j x h e g o = absurd (omega arith)
first-at f (suc i) j x h e g o = by (ltb j i) refl (λ h. first-at f i j x h e g o)
  where
    by : (t : Bool) → ltb j i ≡ t → (j < i → x ≡ first f i) → x ≡ or_else (first f i) (f i)
    by true q ih = is_ne _ _ _ (first f i) 0 (λ z. o (ih (ltb-true j i q) ∙ z)) (ih (ltb-true j i q))
    by false q ih = let z : j ≡ i = omega (arith, ltb-false j i q) in is_eq _ _ _ (first f i) 0 (ap (first f) (sym z) ∙ e) (g ∙ ap f z)

pub first-end : (f : ℕ → ℕ) (i j : ℕ) → j ≤ i → i ≤ j → first f j ≡ 0 → 0 ≡ first f i
first-end f i j h g e = sym (ap (first f) (let z : i ≡ j = omega arith in z) ∙ e)

-- ROWS THAT PASS A TEST

module _ (test : ℕ → Bool) (j : ℕ) (t : Bool) (e : row_of test j ≡ 0) (g : t ≡ test j) where
  pub row_next : t ≡ false → row_of test (j + 1) ≡ 0
  row_next h = first_next (λ j. when (test j) (j + 1) 0) j 0 e (by-false _ _ _ (test j) (sym g ∙ h) refl) refl

  pub row_at : (i : ℕ) → j < i → t ≡ true → j + 1 ≡ row_of test i
  row_at i l h = first-at (λ j. when (test j) (j + 1) 0) i j (j + 1) l e (by-true _ _ _ (test j) (sym g ∙ h) refl) (λ z. omega (arith, z))
