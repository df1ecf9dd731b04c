-- Worked examples of the definitions, computed: the tracks by tables and by runs, what fits, and the sweep of a file of 70
-- bytes with one mdat. Assumes nothing.
use Rattle.std.specs.Prelude.{Option, Some, None}
use Prim.Native.Nat.{ℕ}
use mathlib.Core.Path.{◌≡◌, refl}
use mathlib.Core.List.{List, [], ◌∷◌, ◌++◌}
use mathlib.Core.Bool.{true, false}
use lib.IntN.{pos}
use lib.ListN.{take, replicate}
use Rattle.numbers.specs.Number.{be, bytes}
use Rattle.numbers.specs.Field.{field, when}
use Rattle.signed.specs.Signed.{signed}
use Rattle.trun.specs.Trun.{optional}
use Rattle.samples.specs.declared.Sample.{Sample}
use Rattle.tables.specs.Tables.{pair_at, group_at, offset_at, size_at, number_at}
use Rattle.tables.specs.declared.Track as tables
use Rattle.tables.proofs.Vectors as tabled
use Rattle.runs.specs.Values as values
use Rattle.runs.specs.Samples.{sample_at, run_samples}
use Rattle.runtable.specs.Table.{row_at, rows_of}
use Rattle.fragments.specs.Samples.{count_of, mine}
use Rattle.fragments.proofs.Vectors as ran
use Rattle.verdicts.specs.Findings.{track, asked}
use Rattle.verdicts.specs.Sweep.{sweep_from, sweep}
use Rattle.places.specs.Kinds.{mdat}
use Rattle.kin.specs.Kin.{Boxes, boxes}
use Rattle.payloads.specs.Payloads.{payloads_in, payloads_from}
use Rattle.sweeps.specs.Tracks.{fitting, tracks_in}
use Rattle.verdicts.specs.declared.Finding.{Finding}

-- WHAT FITS

abbrev sample : ℕ → ℕ → ℕ → Sample
sample n offset size = record { number = n; offset = offset; size = size; time = 0; duration = 1; composition = pos 0; sync = true }

-- the second ends past 2^64 - 1: it and the third are lost
up-to-the-second : fitting (sample 1 8 4 ∷ sample 2 0xffff_ffff_ffff_ffff 1 ∷ sample 3 12 4 ∷ []) ≡ sample 1 8 4 ∷ []
unfolding when
up-to-the-second = refl

-- TRACKS

-- the first of two tracks by its tables, in a file whose runs do not count
by-tables : tracks_in false tabled.file (rows_of ran.table 4) (take 1 (7 ∷ 9 ∷ [])) (take 1 (tabled.high ∷ tabled.track ∷ []))
    ≡ track 7 true (record { number = 1; offset = 0xffff_ffff_ffff_fff0; size = 10; time = 0; duration = 0; composition = pos 0; sync = false } ∷ []) ∷ []
unfolding be bytes field when signed pair_at group_at offset_at size_at number_at
by-tables = refl

-- both by their runs
by_runs : tracks_in true ran.file (rows_of ran.table 4) (2 ∷ 5 ∷ []) (tabled.track ∷ tabled.track ∷ [])
    ≡ track 2 true (record { number = 1; offset = 130; size = 30; time = 500; duration = 3000; composition = pos 0; sync = true } ∷ []) ∷ track 5 true [] ∷ []
unfolding be bytes field when optional signed values.own_of values.duration_at values.size_at values.flags_by sample_at run_samples row_at count_of mine
by_runs = refl

-- A FILE

-- an entry of stts at 0, of stsc at 8, sizes of 2 and 3 at 20, chunks from 28 on; then an mdat at 52, with its payload
-- from 60 on
abbrev file : List ℕ
file =
    bytes 4 2 ++ bytes 4 1 ++ bytes 4 1 ++ bytes 4 1 ++ bytes 4 1 ++ bytes 4 2 ++ bytes 4 3
    ++ bytes 4 60 ++ bytes 4 64 ++ bytes 4 62 ++ bytes 4 67 ++ bytes 4 60 ++ bytes 4 60
    ++ bytes 4 18 ++ bytes 4 mdat ++ replicate 10 7

-- two samples, of 2 and 3 bytes, each in a chunk
abbrev of : ℕ → tables.Track
of chunks = record {
  stts = record { at = 0; count = 1 };
  ctts = None;
  stsc = record { at = 8; count = 1 };
  stsz = record { at = 20; count = 2; common = 0 };
  stco = record { at = chunks; count = 2; wide = false };
  stss = None;
}

-- at 60 and 64
abbrev first : tables.Track
first = of 28

-- at 62 and 67, where the first leaves room
abbrev second : tables.Track
second = of 36

-- both at 60
abbrev back : tables.Track
back = of 44

abbrev recorded : ℕ → Boxes
recorded size = boxes (52 ∷ []) (size ∷ []) (mdat ∷ []) (0 ∷ []) (1 ∷ [])

-- tracks 7 and 9, with an mdat of that size
abbrev swept : ℕ → tables.Track → tables.Track → ℕ → Option Finding
swept size t u count = asked (sweep (payloads_from file (recorded size) 1 0) (tracks_in false file [] (take count (7 ∷ 9 ∷ [])) (take count (t ∷ u ∷ []))))

abbrev finding : ℕ → ℕ → ℕ → ℕ → Option Finding
finding n t s p = Some (record { number = n; track = t; sample = s; position = p; gap = pos 0 })

clean : swept 18 first second 2 ≡ None
unfolding be bytes field when signed pair_at group_at offset_at size_at number_at payloads_in sweep_from
clean = refl

-- F6: without the second track nobody has byte 62
hole : swept 18 first second 1 ≡ finding 6 0 0 62
unfolding be bytes field when signed pair_at group_at offset_at size_at number_at payloads_in sweep_from
hole = refl

-- F5: two samples start at 60, and the second is named
overlap : swept 18 first first 2 ≡ finding 5 9 1 60
unfolding be bytes field when signed pair_at group_at offset_at size_at number_at payloads_in sweep_from
overlap = refl

-- F5: the second sample of the second track starts where the position was
backward : swept 18 second back 2 ≡ finding 5 9 2 60
unfolding be bytes field when signed pair_at group_at offset_at size_at number_at payloads_in sweep_from
backward = refl

-- F4: the payload ends in the sample at 64
past_the_end : swept 13 first second 2 ≡ finding 4 7 2 64
unfolding be bytes field when signed pair_at group_at offset_at size_at number_at payloads_in sweep_from
past_the_end = refl

-- F4: the sample at 67 is left after the last payload
left_over : swept 15 first second 2 ≡ finding 4 9 2 67
unfolding be bytes field when signed pair_at group_at offset_at size_at number_at payloads_in sweep_from
left_over = refl

-- F5: so is one that starts in a payload; at the payload's end no sample is looked at
left-inside : swept 10 back first 1 ≡ finding 5 7 2 60
unfolding be bytes field when signed pair_at group_at offset_at size_at number_at payloads_in sweep_from
left-inside = refl

-- an empty payload is passed over, and holds no byte
empty : swept 8 back first 1 ≡ finding 4 7 1 60
unfolding be bytes field when signed pair_at group_at offset_at size_at number_at payloads_in sweep_from
empty = refl

-- no track: the first byte of the payload is nobody's
no-track : swept 18 first second 0 ≡ finding 6 0 0 60
unfolding be bytes field when signed pair_at group_at offset_at size_at number_at payloads_in sweep_from
no-track = refl

-- no mdat: the first track with a sample, here by runs
no-mdat : asked (sweep (payloads_from ran.file (recorded 18) 0 0) (tracks_in true ran.file (rows_of ran.table 4) (5 ∷ 2 ∷ 1 ∷ []) (first ∷ first ∷ first ∷ []))) ≡ finding 4 2 1 130
unfolding be bytes field when optional signed values.own_of values.duration_at values.size_at values.flags_by sample_at run_samples row_at count_of mine payloads_in sweep_from
no-mdat = refl
