-- Worked examples of the definitions, computed on the table of fragments' own examples. Assumes nothing.
use Rattle.std.specs.Prelude.{Result, Ok, Err, Some, None}
use Prim.Native.Nat.{ℕ}
use mathlib.Core.Path.{◌≡◌, refl}
use mathlib.Core.List.{List, [], ◌++◌}
use mathlib.Core.Bool.{Bool, true, false}
use lib.IntN.{pos}
use Rattle.numbers.specs.Number.{be, bytes}
use Rattle.numbers.specs.Field.{field, when}
use Rattle.numbers.specs.declared.Refusal.TheVariants as refusal
use Rattle.signed.specs.Signed.{signed}
use Rattle.trun.specs.Trun.{optional}
use Rattle.samples.specs.Lists.{bytes_of, lookup_of}
use Rattle.lookup.specs.Lookup.{sync_of}
use Rattle.runs.specs.Values.{own_of, duration_at, size_at, flags_by}
use Rattle.runs.specs.Samples.{sample_at, run_samples}
use Rattle.runs.specs.declared.Run.{Run}
use Rattle.runtable.specs.Table.{numbers_of, row_at, rows_of}
use Rattle.fragments.specs.Samples.{count_of, mine, samples_of_runs, count_in}
use Rattle.fragments.proofs.Vectors.{file, table, sized}
use Rattle.runlookup.specs.Lookup.{counted, place_in}
use Rattle.runlookup.specs.declared.Place.TheVariants as place
use Rattle.numbers.specs.declared.Refusal.{Refusal}
use Rattle.samples.specs.declared.Located.{Located}

counts : counted (count_in 1 (rows_of table 4)) ≡ Some 3
unfolding when row_at count_of
counts = refl

-- 10, 20 and 40 bytes
bytes-of-all : counted (bytes_of (samples_of_runs file (rows_of table 4) 1)) ≡ Some 70
unfolding be bytes field when optional signed own_of duration_at size_at flags_by sample_at run_samples row_at count_of mine
bytes-of-all = refl

-- a count of more than 64 bits
too_many : counted 0x1_0000_0000_0000_0000 ≡ None
unfolding when
too_many = refl

abbrev of-1 : ℕ → Result Located Refusal
of-1 n = lookup_of (samples_of_runs file (rows_of table 4) 1) n

-- the third sample is the first of the track's last run
third : of-1 3 ≡ Ok (record { offset = 200; size = 40; time = 15000; duration = 3000; composition = pos 0 })
unfolding be bytes field when optional signed own_of duration_at size_at flags_by sample_at run_samples row_at count_of mine lookup_of
third = refl

third-place : place_in 1 0 2 (rows_of table 4) ≡ place.At (sized 1 1 200 15000 12) 2 0
unfolding when row_at count_of place_in
third-place = refl

no-fourth : of-1 4 ≡ Err (refusal.NoSample 4)
unfolding be bytes field when optional signed own_of duration_at size_at flags_by sample_at run_samples row_at count_of mine lookup_of
no-fourth = refl

no-0 : of-1 0 ≡ Err (refusal.NoSample 0)
unfolding lookup_of
no-0 = refl

-- WHETHER A SAMPLE IS SYNC

-- a run of two samples that say nothing of themselves
abbrev alike : ℕ → ℕ → ℕ → Run
alike start set flags = record { track = 1; start = start; time = 0; at = 0; trun = record { version = 0; flags = set; sample_count = 2; data_offset = 0; first_sample_flags = 0 }; duration = 4; size = 10; flags = flags }

-- two samples that are sync, and a run of two of which only the first is: the last ends past 2^64 - 1, and does not fit
abbrev pub flagged : List ℕ
flagged = numbers_of (alike 100 0 0) ++ numbers_of (alike 0xffff_ffff_ffff_fff0 4 0x1_0000)

abbrev sync-1 : ℕ → Result Bool Refusal
sync-1 n = sync_of (samples_of_runs [] (rows_of flagged 2) 1) n

sync-second : sync-1 2 ≡ Ok true
unfolding be bytes field when optional signed own_of duration_at size_at flags_by sample_at run_samples row_at count_of mine sync_of
sync-second = refl

-- the first of the second run, by the flags that the trun has for it
sync-third : sync-1 3 ≡ Ok true
unfolding be bytes field when optional signed own_of duration_at size_at flags_by sample_at run_samples row_at count_of mine sync_of
sync-third = refl

sync-fourth : sync-1 4 ≡ Ok false
unfolding be bytes field when optional signed own_of duration_at size_at flags_by sample_at run_samples row_at count_of mine sync_of
sync-fourth = refl

fourth-does-not-fit : lookup_of (samples_of_runs [] (rows_of flagged 2) 1) 4 ≡ Err refusal.Overflow
unfolding be bytes field when optional signed own_of duration_at size_at flags_by sample_at run_samples row_at count_of mine lookup_of
fourth-does-not-fit = refl

sync-no-fifth : sync-1 5 ≡ Err (refusal.NoSample 5)
unfolding be bytes field when optional signed own_of duration_at size_at flags_by sample_at run_samples row_at count_of mine sync_of
sync-no-fifth = refl

sync-no-0 : sync-1 0 ≡ Err (refusal.NoSample 0)
unfolding sync_of
sync-no-0 = refl
