-- What a value does to an open run, way by way. Assumes nothing.
use Prim.Native.Nat.{ℕ, zero, suc, ◌+◌, ◌-◌, ◌^◌, ◌≤◌, ◌<◌}
use mathlib.Core.Path.{◌≡◌, refl, sym, ap}
use mathlib.Core.Bool.{Bool, true, false}
use mathlib.Core.Logic.{◌⊎◌, inl, inr}
use native.Mathlib.Omega.{arith}
use lib.Dec.{eqb, ltb}
use borrow.Author.Tests.{eqb-true, eqb-false, ltb-true, ltb-false}
use Rattle.numbers.specs.Field.{when}
use Rattle.numbers.proofs.Chain.{is_eq, is_ne, is_lt, not-lt}
use Rattle.merging.specs.declared.Open.{Open}
use Rattle.merging.specs.declared.Step.{Step}
use Rattle.merging.specs.declared.Step.TheVariants.{Longer, Closed}
use Rattle.merging.specs.Merging.{most, run, fresh, closed_by, step_of, finish_of}

module _ (o : Open) (v : ℕ) where
  pub step-first : o.count ≡ 0 → Longer (run 1 v) ≡ step_of o v
  unfolding step_of
  step-first z = is_eq _ _ _ o.count 0 z refl

  pub step_other : (o.count ≡ 0 → ⊥) → (v ≡ o.value → ⊥) → closed_by o v ≡ step_of o v
  unfolding step_of
  step_other z q = is_ne _ _ _ o.count 0 z (is_ne _ _ _ v o.value q refl)

  pub step-full : (o.count ≡ 0 → ⊥) → v ≡ o.value → most ≤ o.count → closed_by o v ≡ step_of o v
  unfolding step_of
  step-full z q h = is_ne _ _ _ o.count 0 z (is_eq _ _ _ v o.value q (not-lt _ _ _ o.count most h refl))

  pub step-longer : (o.count ≡ 0 → ⊥) → v ≡ o.value → o.count < most → Longer (run (o.count + 1) v) ≡ step_of o v
  unfolding step_of
  step-longer z q h = is_ne _ _ _ o.count 0 z (is_eq _ _ _ v o.value q (is_lt _ _ _ o.count most h refl))

module _ (o : Open) where
  pub finish-none : o.count ≡ 0 → Longer fresh ≡ finish_of o
  unfolding finish_of
  finish-none z = is_eq _ _ _ o.count 0 z refl

  pub finish-row : (o.count ≡ 0 → ⊥) → Closed o fresh ≡ finish_of o
  unfolding finish_of
  finish-row z = is_ne _ _ _ o.count 0 z refl

-- the ways that there are
pub data Way (o : Open) (v : ℕ) : Type 0 where
  first : o.count ≡ 0 → step_of o v ≡ Longer (run 1 v) → Way o v
  longer : 0 < o.count → v ≡ o.value → o.count < most → step_of o v ≡ Longer (run (o.count + 1) v) → Way o v
  closes : 0 < o.count → (v ≡ o.value → most ≤ o.count) → step_of o v ≡ closed_by o v → Way o v

pub way_of : (o : Open) (v : ℕ) → Way o v
way_of o v = by_count (eqb o.count 0) refl
  where
    by_most : (o.count ≡ 0 → ⊥) → v ≡ o.value → (b : Bool) → ltb o.count most ≡ b → Way o v
    by_most z q true e = longer (omega arith) q (ltb-true o.count most e) (sym (step-longer o v z q (ltb-true o.count most e)))
    by_most z q false e = closes (omega arith) (λ p. ltb-false o.count most e) (sym (step-full o v z q (ltb-false o.count most e)))

    by_value : (o.count ≡ 0 → ⊥) → (b : Bool) → eqb v o.value ≡ b → Way o v
    by_value z true e = by_most z (eqb-true v o.value e) (ltb o.count most) refl
    by_value z false e = closes (omega arith) (λ q. absurd (eqb-false v o.value e q)) (sym (step_other o v z (eqb-false v o.value e)))

    by_count : (b : Bool) → eqb o.count 0 ≡ b → Way o v
    by_count true e = first (eqb-true o.count 0 e) (sym (step-first o v (eqb-true o.count 0 e)))
    by_count false e = by_value (eqb-false o.count 0 e) (eqb v o.value) refl

-- a run that counts any, or none
pub data Ended (o : Open) : Type 0 where
  none : o.count ≡ 0 → finish_of o ≡ Longer fresh → Ended o
  some : 0 < o.count → finish_of o ≡ Closed o fresh → Ended o

pub ended_of : (o : Open) → Ended o
ended_of o = by_count (eqb o.count 0) refl
  where
    by_count : (b : Bool) → eqb o.count 0 ≡ b → Ended o
    by_count true e = none (eqb-true o.count 0 e) (sym (finish-none o (eqb-true o.count 0 e)))
    by_count false e = let z = eqb-false o.count 0 e in some (omega arith) (sym (finish-row o z))
