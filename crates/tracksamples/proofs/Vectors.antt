-- Worked examples of the definitions, computed: the tables of document 01's cases 1 and 2, and the runs of fragments' own
-- examples. Assumes nothing.
use Rattle.std.specs.Prelude.{Ok, Err, Some}
use Prim.Native.Nat.{ℕ}
use mathlib.Core.Path.{◌≡◌, refl}
use mathlib.Core.List.{List, [], ◌∷◌}
use mathlib.Core.Bool.{true, false}
use lib.ListN.{replicate}
use Rattle.numbers.specs.Number.{be, bytes}
use Rattle.numbers.specs.Field.{field, when}
use Rattle.numbers.specs.declared.Refusal.TheVariants as refusal
use Rattle.signed.specs.Signed.{signed}
use Rattle.trun.specs.Trun.{optional}
use Rattle.samples.specs.Records.{Output, output, list_of}
use Rattle.tables.specs.Tables.{pair_at, group_at, offset_at, size_at, number_at}
use Rattle.tables.specs.declared.Track.{Track}
use Rattle.tables.proofs.Vectors as tables
use Rattle.runs.specs.Values as run
use Rattle.runs.specs.Samples.{sample_at, run_samples}
use Rattle.runtable.specs.Table.{row_at, rows_of}
use Rattle.fragments.specs.Samples as fragments
use Rattle.fragments.specs.Samples.{mine}
use Rattle.fragments.proofs.Vectors as runs
use Rattle.tracksamples.specs.TrackSamples.{samples_from, one_of, count_of, total_of, narrow_of}
use Rattle.tracksamples.specs.declared.Source.{Source}

-- the track of these tables; and track n of a fragmented file, whose tables are not looked at
abbrev by-tables : Track → Source
by-tables t = record { tables = t; number = 1; fragmented = false }

abbrev by_runs : ℕ → Source
by_runs n = record { tables = tables.track; number = n; fragmented = true }

-- BY TABLES

abbrev one : Track → ℕ → List ℕ → Output
one t n o = one_of (samples_from tables.file (by-tables t) (rows_of runs.table 4)) n o

-- the second of six, which is not sync, with an offset of -2; the number past the record stays
second : one tables.track 2 (replicate 8 9) ≡ output (Ok 1) (2 ∷ 58 ∷ 20 ∷ 1000 ∷ 1000 ∷ 0xffff_ffff_ffff_fffe ∷ 0 ∷ 9 ∷ [])
unfolding be bytes field when signed pair_at group_at offset_at size_at number_at one_of
second = refl

-- sample 7 is 11; so is 0 (case 1)
no-seventh : one tables.track 7 [] ≡ output (Err (refusal.NoSample 7)) []
unfolding be bytes field when signed pair_at group_at offset_at size_at number_at one_of
no-seventh = refl

no-0 : one tables.track 0 (replicate 8 9) ≡ output (Err (refusal.NoSample 0)) (replicate 8 9)
unfolding one_of
no-0 = refl

-- six numbers have no room for a record
no_room : one tables.track 2 (replicate 6 9) ≡ output (Err (refusal.TooSmall 1)) (replicate 6 9)
unfolding be bytes field when signed pair_at group_at offset_at size_at number_at one_of
no_room = refl

-- the second sample ends past 2^64 - 1: 9, before 12; the first is told
high-second : one tables.high 2 [] ≡ output (Err refusal.Overflow) []
unfolding be bytes field when signed pair_at group_at offset_at size_at number_at one_of
high-second = refl

high-first : one tables.high 1 (replicate 7 9) ≡ output (Ok 1) (1 ∷ 0xffff_ffff_ffff_fff0 ∷ 10 ∷ 0 ∷ 1000 ∷ 0 ∷ 1 ∷ [])
unfolding be bytes field when signed pair_at group_at offset_at size_at number_at one_of
high-first = refl

count-by-tables : count_of (samples_from tables.file (by-tables tables.track) (rows_of runs.table 4)) ≡ Ok 6
unfolding be bytes field when signed pair_at group_at offset_at size_at number_at count_of
count-by-tables = refl

-- 10 to 60 by tens (case 2)
total-by-tables : total_of (samples_from tables.file (by-tables tables.track) (rows_of runs.table 4)) ≡ Ok 210
unfolding be bytes field when signed pair_at group_at offset_at size_at number_at total_of
total-by-tables = refl

-- BY RUNS

-- two runs of track 1, with one of track 2 between them
listed : list_of (samples_from runs.file (by_runs 1) (rows_of runs.table 4)) (replicate 22 9)
    ≡ output (Ok 3)
    (1 ∷ 100 ∷ 10 ∷ 9000 ∷ 3000 ∷ 0 ∷ 1
    ∷ 2 ∷ 110 ∷ 20 ∷ 12000 ∷ 3000 ∷ 0 ∷ 1
    ∷ 3 ∷ 200 ∷ 40 ∷ 15000 ∷ 3000 ∷ 0 ∷ 1
    ∷ 9 ∷ [])
unfolding be bytes field when optional signed run.own_of run.duration_at run.size_at run.flags_by sample_at run_samples row_at fragments.count_of mine
listed = refl

third : one_of (samples_from runs.file (by_runs 1) (rows_of runs.table 4)) 3 (replicate 7 9) ≡ output (Ok 1) (3 ∷ 200 ∷ 40 ∷ 15000 ∷ 3000 ∷ 0 ∷ 1 ∷ [])
unfolding be bytes field when optional signed run.own_of run.duration_at run.size_at run.flags_by sample_at run_samples row_at fragments.count_of mine one_of
third = refl

-- the row of the third is not asked for
no_third : one_of (samples_from runs.file (by_runs 1) (rows_of runs.table 3)) 3 [] ≡ output (Err (refusal.NoSample 3)) []
unfolding be bytes field when optional signed run.own_of run.duration_at run.size_at run.flags_by sample_at run_samples row_at fragments.count_of mine one_of
no_third = refl

count-by-runs : count_of (samples_from runs.file (by_runs 1) (rows_of runs.table 4)) ≡ Ok 3
unfolding be bytes field when optional signed run.own_of run.duration_at run.size_at run.flags_by sample_at run_samples row_at fragments.count_of mine count_of
count-by-runs = refl

total-by-runs : total_of (samples_from runs.file (by_runs 2) (rows_of runs.table 4)) ≡ Ok 30
unfolding be bytes field when optional signed run.own_of run.duration_at run.size_at run.flags_by sample_at run_samples row_at fragments.count_of mine total_of
total-by-runs = refl

-- the most samples that 32 bits count, and one more
most : narrow_of (Some 0xffff_ffff) ≡ Ok 0xffff_ffff
unfolding when
most = refl

one_more : narrow_of (Some 0x1_0000_0000) ≡ Err refusal.Overflow
unfolding when
one_more = refl
