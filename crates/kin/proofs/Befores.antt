-- The boxes before a box, one after the other. Assumes nothing.
use mathlib.Core.Path.{◌≡◌, refl, sym, ap, ◌∙◌}
use mathlib.Core.Bool.{Bool, true, false}
use Prim.Native.Nat.{ℕ, zero, suc, ◌+◌, ◌<◌}
use native.Mathlib.Numerals.{add-one}
use native.Mathlib.Omega.{arith}
use lib.Dec.{ltb}
use borrow.Author.Tests.{ltb-true, ltb-false}
use Rattle.numbers.specs.Field.{when}
use Rattle.kin.specs.Before.{some, sum}

pub some-none : (p : ℕ → Bool) → some p 0 ≡ false
unfolding some
some-none p = refl

pub some_next : (p : ℕ → Bool) (j : ℕ) → some p j ≡ false → p j ≡ false → some p (j + 1) ≡ false
unfolding some when
some_next p j e h = ap (some p) (add-one j) ∙ ap (λ t. when t true (p j)) e ∙ h

-- one that passes is found from any box behind it
pub some_at : (p : ℕ → Bool) (i j : ℕ) → j < i → p j ≡ true → true ≡ some p i
unfolding some when
some_at p zero j h e = absurd (omega arith)
some_at p (suc i) j h e = by (ltb j i) refl (λ h. some_at p i j h e)
  where
    last : (t : Bool) → p i ≡ true → true ≡ when t true (p i)
    last true q = refl
    last false q = sym q

    by : (t : Bool) → ltb j i ≡ t → (j < i → true ≡ some p i) → true ≡ when (some p i) true (p i)
    by true q ih = ap (λ t. when t true (p i)) (ih (ltb-true j i q))
    by false q ih = last (some p i) (ap p (let z : i ≡ j = omega (arith, ltb-false j i q) in z) ∙ e)

pub sum-none : (f : ℕ → ℕ) → sum f 0 ≡ 0
unfolding sum
sum-none f = refl

pub sum-next : (f : ℕ → ℕ) (j : ℕ) → sum f (j + 1) ≡ sum f j + f j
unfolding sum
sum-next f j = ap (sum f) (add-one j)
