-- Worked examples of the definition: case 7 of document 01, and runs of samples that are empty, last no time or do not
-- fit. The files and tables with names of other crates are those crates' own examples. Assumes nothing.
use Rattle.std.specs.Prelude.{Some, None}
use Prim.Native.Nat.{ℕ}
use mathlib.Core.Path.{◌≡◌, refl}
use mathlib.Core.List.{[], ◌++◌}
use mathlib.Core.Bool.{true, false}
use Rattle.numbers.specs.Number.{be, bytes}
use Rattle.numbers.specs.Field.{field, when}
use Rattle.signed.specs.Signed.{signed}
use Rattle.trun.specs.Trun.{optional}
use Rattle.runs.specs.Values.{own_of, duration_at, size_at, flags_by}
use Rattle.runs.specs.Samples.{sample_at, run_samples}
use Rattle.runs.specs.declared.Run.{Run}
use Rattle.runtable.specs.Table.{numbers_of, row_at, rows_of}
use Rattle.fragments.specs.Samples.{count_of, mine, samples_of_runs}
use Rattle.passes.specs.Passed.{passed_of, of_sample}
use Rattle.passes.specs.declared.Passed.{Passed}
use Rattle.passes.specs.declared.Passed.TheVariants.{Over, Fine, Found}
use Rattle.runpasses.specs.Walk.{after_sample, told_of}
use Rattle.runs.proofs.Vectors as one-run
use Rattle.fragments.proofs.Vectors as runs
use Rattle.runlookup.proofs.Vectors as lookups

case-7 : passed_of 7 (samples_of_runs one-run.file (rows_of (numbers_of one-run.run) 1) 7) ≡ Fine 3
unfolding passed_of be bytes field when optional signed own_of duration_at size_at flags_by sample_at run_samples row_at count_of mine
case-7 = refl

-- another track has no samples there
case-7-other : passed_of 8 (samples_of_runs one-run.file (rows_of (numbers_of one-run.run) 1) 8) ≡ Fine 0
unfolding passed_of be bytes field when optional signed own_of duration_at size_at flags_by sample_at run_samples row_at count_of mine
case-7-other = refl

two_runs : passed_of 1 (samples_of_runs runs.file (rows_of runs.table 4) 1) ≡ Fine 3
unfolding passed_of be bytes field when optional signed own_of duration_at size_at flags_by sample_at run_samples row_at count_of mine
two_runs = refl

-- the last of four samples ends past 2^64 - 1
over : passed_of 1 (samples_of_runs [] (rows_of lookups.flagged 2) 1) ≡ Over
unfolding passed_of be bytes field when optional signed own_of duration_at size_at flags_by sample_at run_samples row_at count_of mine
over = refl

-- a run of n samples of that size and duration, from `start` on
abbrev alike : ℕ → ℕ → ℕ → ℕ → Run
alike n start size duration = record { track = 1; start = start; time = 0; at = 0; trun = record { version = 0; flags = 0; sample_count = n; data_offset = 0; first_sample_flags = 0 }; duration = duration; size = size; flags = 0 }

abbrev passed : Run → Run → Passed
passed a b = passed_of 1 (samples_of_runs [] (rows_of (numbers_of a ++ numbers_of b) 2) 1)

-- the last sample of a run lasts no time, and one of the next run follows it
idle-then-more : passed (alike 1 100 10 0) (alike 1 110 10 4) ≡ Found (of_sample 3 1 1)
unfolding passed_of be bytes field when optional signed own_of duration_at size_at flags_by sample_at run_samples row_at count_of mine
idle-then-more = refl

-- the last sample of the last run that has one may
idle-last : passed (alike 1 100 10 4) (alike 1 110 10 0) ≡ Fine 2
unfolding passed_of be bytes field when optional signed own_of duration_at size_at flags_by sample_at run_samples row_at count_of mine
idle-last = refl

idle-then-none : passed (alike 1 100 10 0) (alike 0 110 10 4) ≡ Fine 1
unfolding passed_of be bytes field when optional signed own_of duration_at size_at flags_by sample_at run_samples row_at count_of mine
idle-then-none = refl

empty-last : passed (alike 2 100 10 4) (alike 1 120 0 4) ≡ Found (of_sample 2 1 3)
unfolding passed_of be bytes field when optional signed own_of duration_at size_at flags_by sample_at run_samples row_at count_of mine
empty-last = refl

-- both at one sample
empty-and-idle : passed (alike 1 100 0 0) (alike 1 110 10 4) ≡ Found (of_sample 2 1 1)
unfolding passed_of be bytes field when optional signed own_of duration_at size_at flags_by sample_at run_samples row_at count_of mine
empty-and-idle = refl

-- a sample behind a finding does not fit
found-then-over : passed (alike 1 100 0 4) (alike 1 0xffff_ffff_ffff_ffff 1 4) ≡ Over
unfolding passed_of be bytes field when optional signed own_of duration_at size_at flags_by sample_at run_samples row_at count_of mine
found-then-over = refl

-- STEPS

-- F3 of the sample before comes before F2 of this one, and the first finding stays
step-idle : after_sample None 7 true 4 5 0 ≡ Some (of_sample 3 7 4)
unfolding after_sample when
step-idle = refl

step-empty : after_sample None 7 false 4 5 0 ≡ Some (of_sample 2 7 5)
unfolding after_sample when
step-empty = refl

step-fine : after_sample None 7 false 4 5 10 ≡ None
unfolding after_sample when
step-fine = refl

step-found : after_sample (Some (of_sample 2 7 1)) 7 true 4 5 0 ≡ Some (of_sample 2 7 1)
unfolding after_sample
step-found = refl

told-fine : told_of 5 None ≡ Fine 5
told-fine = refl

told-found : told_of 5 (Some (of_sample 2 7 1)) ≡ Found (of_sample 2 7 1)
told-found = refl
