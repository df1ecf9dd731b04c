-- Worked examples of the definitions, computed. Assumes nothing.
use Prim.Native.Nat.{ℕ}
use mathlib.Core.Path.{◌≡◌, refl}
use mathlib.Core.List.{List, [], ◌∷◌, ◌++◌}
use mathlib.Core.Bool.{true}
use lib.IntN.{pos}
use Rattle.numbers.specs.Number.{be, bytes}
use Rattle.numbers.specs.Field.{field, when}
use Rattle.signed.specs.Signed.{signed}
use Rattle.trun.specs.Trun.{optional}
use Rattle.samples.specs.Lists.{none, one, view}
use Rattle.samples.specs.declared.Sample.{Sample}
use Rattle.runs.specs.Values.{own_of, duration_at, size_at, flags_by}
use Rattle.runs.specs.Samples.{sample_at, run_samples}
use Rattle.runs.specs.declared.Run.{Run}
use Rattle.runtable.specs.Table.{numbers_of, row_at, rows_of}
use Rattle.fragments.specs.Samples.{count_of, mine, samples_of_runs, count_in}
use Rattle.fragments.specs.Lane.{left}
use Rattle.fragments.specs.declared.Lane.{Lane}
use Rattle.runs.specs.Lane as run

-- a run of n samples of a track, which say their sizes from `at` on
abbrev pub sized : ℕ → ℕ → ℕ → ℕ → ℕ → Run
sized track n start time at = record { track = track; start = start; time = time; at = at; trun = record { version = 0; flags = 0x200; sample_count = n; data_offset = 0; first_sample_flags = 0 }; duration = 3000; size = 0; flags = 0 }

abbrev pub file : List ℕ
file = bytes 4 10 ++ bytes 4 20 ++ bytes 4 30 ++ bytes 4 40

-- two runs of track 1, an empty one of it, and one of track 2 between them
abbrev pub table : List ℕ
table = numbers_of (sized 1 2 100 9000 0) ++ numbers_of (sized 2 1 130 500 8) ++ numbers_of (sized 1 0 0 0 0) ++ numbers_of (sized 1 1 200 15000 12)

abbrev a : ℕ → ℕ → ℕ → ℕ → Sample
a n offset size time = record { number = n; offset = offset; size = size; time = time; duration = 3000; composition = pos 0; sync = true }

-- numbers run on through the file, places and times begin anew with each run
of-track-1 : samples_of_runs file (rows_of table 4) 1 ≡ a 1 100 10 9000 ∷ a 2 110 20 12000 ∷ a 3 200 40 15000 ∷ []
unfolding be bytes field when optional signed own_of duration_at size_at flags_by sample_at run_samples row_at count_of mine
of-track-1 = refl

of-track-2 : samples_of_runs file (rows_of table 4) 2 ≡ a 1 130 30 500 ∷ []
unfolding be bytes field when optional signed own_of duration_at size_at flags_by sample_at run_samples row_at count_of mine
of-track-2 = refl

-- the last row is not asked for
three-rows : count_in 1 (rows_of table 3) ≡ 2
unfolding when row_at count_of
three-rows = refl

-- A LANE

abbrev after_two : Lane
after_two = record { next = 1; run = sized 1 2 100 9000 0; inside = record { index = 2; number = 2; offset = 130; time = 15000 } }

abbrev after-three : Lane
after-three = record { next = 4; run = sized 1 1 200 15000 12; inside = record { index = 1; number = 3; offset = 240; time = 18000 } }

lane-third : view (left file (rows_of table 4) 1 after_two) ≡ one (a 3 200 40 15000) (left file (rows_of table 4) 1 after-three)
unfolding be bytes field when optional signed own_of duration_at size_at flags_by sample_at run_samples row_at count_of mine left run.left
lane-third = refl

lane-end : view (left file (rows_of table 4) 1 after-three) ≡ none
unfolding be bytes field when optional signed own_of duration_at size_at flags_by sample_at run_samples row_at count_of mine left run.left
lane-end = refl
