-- Worked examples of the definitions, computed. Assumes nothing.
use Rattle.std.specs.Prelude.{Ok, Some, None}
use Prim.Native.Nat.{ℕ}
use mathlib.Core.Path.{◌≡◌, refl}
use mathlib.Core.List.{List, [], ◌∷◌, ◌++◌}
use mathlib.Core.Bool.{true, false}
use lib.IntN.{pos, negsuc}
use Rattle.numbers.specs.Number.{be, bytes}
use Rattle.numbers.specs.Field.{field, when}
use Rattle.signed.specs.Signed.{signed}
use Rattle.layout.specs.Rule.{rule_of}
use Rattle.layout.specs.Read.{one, decode}
use Rattle.layout.specs.Table.{cut_of}
use Rattle.rounds.proofs.Example.{box}
use Rattle.samples.specs.declared.Sample.{Sample}
use Rattle.trun.specs.Trun.{optional, trun_of}
use Rattle.trun.specs.declared.Trun.{Trun}
use Rattle.runs.specs.Values.{own_of, duration_at, size_at, flags_by, flags_at, sync_by}
use Rattle.runs.specs.Samples.{sample_at, run_samples, bytes_in, end_of, durations_in, time_after}
use Rattle.runs.specs.Lane.{left}
use Rattle.runs.specs.declared.Run.{Run}
use Rattle.runs.specs.declared.Lane.{Lane}
use Rattle.samples.specs.Lists as list

-- CASE 7: a traf whose tfdt is 9,000 and whose three samples last 3,000 each, as its bytes

abbrev entries : List ℕ
entries = bytes 4 3000 ++ bytes 4 10 ++ bytes 4 3000 ++ bytes 4 20 ++ bytes 4 3000 ++ bytes 4 30

abbrev pub tfhd-bytes : List ℕ
tfhd-bytes = box 0x74666864 0 0x20020 (bytes 4 7 ++ bytes 4 0x1_0000)

abbrev pub tfdt-bytes : List ℕ
tfdt-bytes = box 0x74666474 0 0 (bytes 4 9000)

abbrev trun-bytes : List ℕ
trun-bytes = box 0x7472756e 0 0x305 (bytes 4 3 ++ bytes 4 200 ++ bytes 4 0x200_0000 ++ entries)

-- the entries begin at 20 + 16 + 24
abbrev pub file : List ℕ
file = tfhd-bytes ++ tfdt-bytes ++ trun-bytes

abbrev pub three : Trun
three = record { version = 0; flags = 0x305; sample_count = 3; data_offset = 200; first_sample_flags = 0x200_0000 }

run-read : trun_of trun-bytes ≡ Ok (three, 24)
unfolding be bytes field when rule_of one decode cut_of
run-read = refl

abbrev pub run : Run
run = record { track = 7; start = 1200; time = 9000; at = 60; trun = three; duration = 40; size = 50; flags = 0x1_0000 }

-- sample n of a run at that place and time, and whether it is sync
abbrev a : ℕ → ℕ → ℕ → ℕ → Sample
a n offset size time = record { number = n; offset = offset; size = size; time = time; duration = 3000; composition = pos 0; sync = false }

-- what the second sample says of itself
own-second : own_of file run 1 ≡ record { duration = 3000; size = 20; flags = 0; composition_offset = pos 0 }
unfolding be bytes field when optional signed own_of
own-second = refl

-- own durations and sizes beat tfhd's and trex's; the first sample is sync by its own flags, the others are not by tfhd's
case-7 : run_samples file run 0 ≡ record { number = 1; offset = 1200; size = 10; time = 9000; duration = 3000; composition = pos 0; sync = true } ∷ a 2 1210 20 12000 ∷ a 3 1230 30 15000 ∷ []
unfolding be bytes field when optional signed own_of duration_at size_at flags_by sample_at run_samples
case-7 = refl

-- the next run is right where it begins at 18,000
case-7-next : time_after file run ≡ 18000
unfolding be bytes field when optional signed own_of duration_at durations_in
case-7-next = refl

case-7-end : end_of file run ≡ Some 1260
unfolding be bytes field when optional signed own_of size_at bytes_in
case-7-end = refl

-- VALUES

-- samples that say nothing of themselves have the run's values, and each the run's flags but the first
abbrev silent : Run
silent = record { track = 7; start = 100; time = 0; at = 0; trun = record { version = 0; flags = 4; sample_count = 2; data_offset = 0; first_sample_flags = 0x1_0000 }; duration = 4; size = 5; flags = 0 }

by-run : run_samples [] silent 8
    ≡ record { number = 9; offset = 100; size = 5; time = 0; duration = 4; composition = pos 0; sync = false }
    ∷ record { number = 10; offset = 105; size = 5; time = 4; duration = 4; composition = pos 0; sync = true } ∷ []
unfolding be bytes field when optional signed own_of duration_at size_at flags_by sample_at run_samples
by-run = refl

-- own flags beat those of the first sample (A31); a composition offset of version 1 is signed
abbrev flagged : Run
flagged = record { track = 7; start = 100; time = 0; at = 2; trun = record { version = 1; flags = 0xc04; sample_count = 1; data_offset = 0; first_sample_flags = 0x1_0000 }; duration = 4; size = 5; flags = 0x1_0000 }

by-own : run_samples (bytes 2 0 ++ bytes 4 0xfffe_ffff ++ bytes 4 0xffff_fffe) flagged 0
    ≡ record { number = 1; offset = 100; size = 5; time = 0; duration = 4; composition = negsuc 1; sync = true } ∷ []
unfolding be bytes field when optional signed own_of duration_at size_at flags_by sample_at run_samples
by-own = refl

sync-by-own : sync_by (flags_at (bytes 2 0 ++ bytes 4 0xfffe_ffff ++ bytes 4 0xffff_fffe) flagged 0) ≡ true
unfolding be bytes field when optional signed own_of flags_by
sync-by-own = refl

sync-first : sync_by (flags_at [] silent 0) ≡ false
unfolding be bytes field when optional signed own_of flags_by
sync-first = refl

-- past the count there is no sample, and the flags are the run's
sync-later : sync_by (flags_at [] silent 7) ≡ true
unfolding be bytes field when optional signed own_of flags_by
sync-later = refl

-- an entry that the file does not hold whole says zeros
not-whole : run_samples (bytes 2 0 ++ bytes 4 0xffff_ffff ++ bytes 3 0) flagged 0
    ≡ record { number = 1; offset = 100; size = 5; time = 0; duration = 4; composition = pos 0; sync = true } ∷ []
unfolding be bytes field when optional signed own_of duration_at size_at flags_by sample_at run_samples
not-whole = refl

-- A LANE

-- the last number of 32 bits is given, and no number after it
abbrev high : Lane
high = record { index = 0; number = 0xffff_fffe; offset = 100; time = 0 }

abbrev higher : Lane
higher = record { index = 1; number = 0xffff_ffff; offset = 105; time = 4 }

last-number : list.view (left [] silent high) ≡ list.one (record { number = 0xffff_ffff; offset = 100; size = 5; time = 0; duration = 4; composition = pos 0; sync = false }) (left [] silent higher)
unfolding be bytes field when optional signed own_of duration_at size_at flags_by sample_at left
last-number = refl

no_number : list.view (left [] silent higher) ≡ list.over
unfolding be bytes field when optional signed own_of duration_at size_at flags_by sample_at left
no_number = refl

lane-end : list.view (left [] silent (record { index = 2; number = 2; offset = 110; time = 8 })) ≡ list.none
unfolding left
lane-end = refl

-- a default size, so often that the end passes 2^64 - 1
abbrev far : Run
far = record { track = 7; start = 0xffff_ffff_ffff_fff5; time = 0; at = 0; trun = record { version = 0; flags = 0; sample_count = 2; data_offset = 0; first_sample_flags = 0 }; duration = 4; size = 5; flags = 0 }

end-held : end_of [] far ≡ Some 0xffff_ffff_ffff_ffff
unfolding be bytes field when optional signed own_of size_at bytes_in
end-held = refl

end-over : end_of [] (record { track = 7; start = 0xffff_ffff_ffff_fff6; time = 0; at = 0; trun = record { version = 0; flags = 0; sample_count = 2; data_offset = 0; first_sample_flags = 0 }; duration = 4; size = 5; flags = 0 }) ≡ None
unfolding be bytes field when optional signed own_of size_at bytes_in
end-over = refl
