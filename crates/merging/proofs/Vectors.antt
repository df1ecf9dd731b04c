-- Worked examples of the definitions: what a value does to an open run, and rows of values. Assumes nothing.
use mathlib.Core.Path.{◌≡◌, refl}
use mathlib.Core.List.{[], ◌∷◌}
use Prim.Native.Nat.{ℕ}
use Rattle.numbers.specs.Field.{when}
use Rattle.tables.specs.declared.Row.{Row}
use Rattle.merging.specs.declared.Step.TheVariants.{Longer, Closed}
use Rattle.merging.specs.Merging.{run, fresh, step_of, finish_of, merged_of}

abbrev row : ℕ → ℕ → Row
row c v = record { count = c; value = v }

-- the first value closes nothing, whatever it is
case-first : step_of fresh 7 ≡ Longer (run 1 7)
unfolding step_of when
case-first = refl

case-first-zero : step_of fresh 0 ≡ Longer (run 1 0)
unfolding step_of when
case-first-zero = refl

case-longer : step_of (run 3 7) 7 ≡ Longer (run 4 7)
unfolding step_of when
case-longer = refl

case-other : step_of (run 3 7) 8 ≡ Closed (run 3 7) (run 1 8)
unfolding step_of when
case-other = refl

-- both sides of the most that a row counts
case-most : step_of (run 0xffff_fffe 7) 7 ≡ Longer (run 0xffff_ffff 7)
unfolding step_of when
case-most = refl

case_full : step_of (run 0xffff_ffff 7) 7 ≡ Closed (run 0xffff_ffff 7) (run 1 7)
unfolding step_of when
case_full = refl

case-finish : finish_of (run 3 7) ≡ Closed (run 3 7) fresh
unfolding finish_of when
case-finish = refl

case-finish-none : finish_of fresh ≡ Longer fresh
unfolding finish_of when
case-finish-none = refl

-- 01, case 1: three of 1000 and three of 500
case_rows : merged_of (1000 ∷ 1000 ∷ 1000 ∷ 500 ∷ 500 ∷ 500 ∷ []) ≡ row 3 1000 ∷ row 3 500 ∷ []
unfolding step_of finish_of when
case_rows = refl

-- equal values apart from each other are two rows
case-apart : merged_of (0 ∷ 1 ∷ 0 ∷ []) ≡ row 1 0 ∷ row 1 1 ∷ row 1 0 ∷ []
unfolding step_of finish_of when
case-apart = refl

case-none : merged_of [] ≡ []
unfolding step_of finish_of when
case-none = refl
