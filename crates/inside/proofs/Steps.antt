-- The boxes in a parent from a row on, row after row. Assumes nothing.
use mathlib.Core.Path.{◌≡◌, refl, sym, ap, ◌∙◌}
use mathlib.Core.Bool.{Bool, true, false}
use Prim.Native.Nat.{ℕ, suc, ◌+◌, ◌-◌, ◌<◌, ◌≤◌}
use native.Mathlib.Omega.{arith}
use Rattle.numbers.specs.Field.{when}
use Rattle.numbers.proofs.Chain.{by-true, by-false}
use Rattle.kin.specs.Kin.{Boxes}
use Rattle.inside.specs.Inside.{in_parent, next_in}

module _ (t : Boxes) (kind p end j : ℕ) where
  one_more : j < end → end - j ≡ suc (end - (j + 1))
  one_more h = omega arith

  none_left : end ≤ j → end - j ≡ 0
  none_left h = omega arith

  pub over : end ≤ j → 0 ≡ next_in t kind p (end - j) j
  unfolding next_in
  over h = sym (ap (λ k. next_in t kind p k j) (none_left h))

  step : j < end → next_in t kind p (end - j) j ≡ when (in_parent t kind p j) (j + 1) (next_in t kind p (end - (j + 1)) (j + 1))
  unfolding next_in
  step h = ap (λ k. next_in t kind p k j) (one_more h)

  module _ (r : Bool) (h : j < end) (e : r ≡ in_parent t kind p j) where
    pub here : r ≡ true → j + 1 ≡ next_in t kind p (end - j) j
    here q = by-true _ _ _ (in_parent t kind p j) (sym e ∙ q) refl ∙ sym (step h)

    pub further : r ≡ false → next_in t kind p (end - (j + 1)) (j + 1) ≡ next_in t kind p (end - j) j
    further q = by-false _ _ _ (in_parent t kind p j) (sym e ∙ q) refl ∙ sym (step h)
