-- Worked examples of the definition: case 7 of document 01 as a listing, two runs of one track, and what is refused. The
-- files and the runs are those of runs and of fragments. Assumes nothing.
use Rattle.std.specs.Prelude.{Ok, Err}
use Prim.Native.Nat.{ℕ}
use mathlib.Core.Path.{◌≡◌, refl}
use mathlib.Core.List.{List, [], ◌∷◌}
use lib.ListN.{replicate}
use Rattle.numbers.specs.Number.{be, bytes}
use Rattle.numbers.specs.Field.{field, when}
use Rattle.numbers.specs.declared.Refusal.TheVariants as refusal
use Rattle.signed.specs.Signed.{signed}
use Rattle.trun.specs.Trun.{optional}
use Rattle.samples.specs.Records.{output, list_of}
use Rattle.runs.specs.Values.{own_of, duration_at, size_at, flags_by}
use Rattle.runs.specs.Samples.{sample_at, run_samples}
use Rattle.runtable.specs.Table.{numbers_of, row_at, rows_of}
use Rattle.fragments.specs.Samples.{count_of, mine, samples_of_runs}
use Rattle.runs.proofs.Vectors as one-run
use Rattle.fragments.proofs.Vectors as runs
use Rattle.runlookup.proofs.Vectors as lookups

abbrev case-7-table : List ℕ
case-7-table = numbers_of one-run.run

-- three records of seven numbers, the first of a sync sample; the number past them stays
case-7 : list_of (samples_of_runs one-run.file (rows_of case-7-table 1) 7) (replicate 22 9)
    ≡ output (Ok 3)
    (1 ∷ 1200 ∷ 10 ∷ 9000 ∷ 3000 ∷ 0 ∷ 1
    ∷ 2 ∷ 1210 ∷ 20 ∷ 12000 ∷ 3000 ∷ 0 ∷ 0
    ∷ 3 ∷ 1230 ∷ 30 ∷ 15000 ∷ 3000 ∷ 0 ∷ 0
    ∷ 9 ∷ [])
unfolding be bytes field when optional signed own_of duration_at size_at flags_by sample_at run_samples row_at count_of mine
case-7 = refl

-- 21 numbers are needed: one less is refused, with the number of records, and the buffer stays
case-7-room : list_of (samples_of_runs one-run.file (rows_of case-7-table 1) 7) (replicate 20 9) ≡ output (Err (refusal.TooSmall 3)) (replicate 20 9)
unfolding be bytes field when optional signed own_of duration_at size_at flags_by sample_at run_samples row_at count_of mine
case-7-room = refl

-- another track has none, which need no room
case-7-other : list_of (samples_of_runs one-run.file (rows_of case-7-table 1) 8) [] ≡ output (Ok 0) []
unfolding be bytes field when optional signed own_of duration_at size_at flags_by sample_at run_samples row_at count_of mine
case-7-other = refl

-- two runs of one track, with a run of another between them: numbers run on
two_runs : list_of (samples_of_runs runs.file (rows_of runs.table 4) 1) (replicate 21 0)
    ≡ output (Ok 3)
    (1 ∷ 100 ∷ 10 ∷ 9000 ∷ 3000 ∷ 0 ∷ 1
    ∷ 2 ∷ 110 ∷ 20 ∷ 12000 ∷ 3000 ∷ 0 ∷ 1
    ∷ 3 ∷ 200 ∷ 40 ∷ 15000 ∷ 3000 ∷ 0 ∷ 1
    ∷ [])
unfolding be bytes field when optional signed own_of duration_at size_at flags_by sample_at run_samples row_at count_of mine
two_runs = refl

-- the fourth sample ends past 2^64 - 1: refused, whether there is room or not
over : list_of (samples_of_runs [] (rows_of lookups.flagged 2) 1) (replicate 28 9) ≡ output (Err refusal.Overflow) (replicate 28 9)
unfolding be bytes field when optional signed own_of duration_at size_at flags_by sample_at run_samples row_at count_of mine
over = refl

over_first : list_of (samples_of_runs [] (rows_of lookups.flagged 2) 1) [] ≡ output (Err refusal.Overflow) []
unfolding be bytes field when optional signed own_of duration_at size_at flags_by sample_at run_samples row_at count_of mine
over_first = refl
