-- Worked examples: where the boxes of a sample table lie, and two samples that are written, stand in a file and are read
-- back. So the theorem's premises hold of something. Assumes nothing.
use Rattle.std.specs.Prelude.{Ok, Some, None}
use mathlib.Core.Path.{◌≡◌, refl}
use mathlib.Core.List.{List, [], ◌∷◌, ◌++◌}
use mathlib.Core.Bool.{true, false}
use Prim.Native.Nat.{ℕ, ◌+◌, ◌^◌, ◌<◌}
use native.Mathlib.Omega.{arith}
use lib.IntN.{pos, negsuc}
use lib.ListN.{length, take, replicate}
use Rattle.numbers.specs.Number.{bytes}
use Rattle.numbers.specs.Field.{when}
use Rattle.put.specs.Put.{wrote}
use Rattle.samples.specs.declared.Sample.{Sample}
use Rattle.samples.specs.Records.{records_of}
use Rattle.tables.specs.Samples.{samples_of}
use Rattle.tables.specs.declared.Track.{Track}
use Rattle.merging.specs.Merging as merging
use Rattle.merging.proofs.Rows.{All, nothing, each}
use Rattle.columns.specs.Columns.{cell_of, low_at, meets}
use Rattle.builder.specs.Built.{common_in, sync_word}
use Rattle.builder.proofs.Back.{Numbered}
use Rattle.chunking.specs.Chunking.{goes_on, step_of, finish_of}
use Rattle.chunking.specs.Entries as chunking
use Rattle.chunking.specs.Entries.{offset_words}
use Rattle.stbl.specs.Stbl.{track_of}
use Rattle.sampletable.specs.SampleTable.{list_of, per_of, kind_of, is_there, first_of, second_of, fits_in, stbl_of, stbl_in}
use Rattle.built.specs.Written.{Stands, Of64}
use Rattle.built.specs.Places.{boxes_at}
use Rattle.built.proofs.Written.{written-reads-back}

abbrev first : Sample
first = record { number = 1; offset = 48; size = 10; time = 0; duration = 1000; composition = pos 0; sync = true }

-- it lies behind the first, shows two ticks before its time, and is not sync
abbrev second : Sample
second = record { number = 2; offset = 58; size = 20; time = 1000; duration = 1000; composition = negsuc 1; sync = false }

abbrev two : List Sample
two = first ∷ second ∷ []

-- behind four bytes that are handed in; all boxes are there but co64
case-boxes : boxes_at 0 9000 (records_of two) 2 (1 ∷ 2 ∷ 3 ∷ 4 ∷ [])
    ≡ record { stts = Some (12, 24); ctts = Some (36, 32); stsc = Some (68, 28); stsz = Some (96, 28); stco = Some (124, 20); co64 = None; stss = Some (144, 20) }
unfolding list_of per_of kind_of is_there first_of second_of common_in sync_word offset_words step_of finish_of goes_on low_at cell_of meets when merging.step_of merging.finish_of
case-boxes = refl

-- an empty track has neither ctts nor stss
case-boxes-empty : boxes_at 100 1 [] 0 []
    ≡ record { stts = Some (108, 16); ctts = None; stsc = Some (124, 16); stsz = Some (140, 20); stco = Some (160, 16); co64 = None; stss = None }
unfolding list_of per_of kind_of is_there first_of second_of common_in sync_word offset_words step_of finish_of goes_on low_at cell_of meets when merging.step_of merging.finish_of
case-boxes-empty = refl

abbrev table : List ℕ
table = stbl_of 9000 (records_of two) 2 (1 ∷ 2 ∷ 3 ∷ 4 ∷ [])

-- the writer does not refuse them
case-written : stbl_in 9000 (records_of two) 2 (1 ∷ 2 ∷ 3 ∷ 4 ∷ []) (replicate 164 9) ≡ wrote (Ok 164) table
unfolding list_of per_of kind_of is_there first_of second_of fits_in chunking.fits_in common_in sync_word offset_words step_of finish_of goes_on low_at cell_of meets bytes when merging.step_of merging.finish_of
case-written = refl

-- the file: the table, and two bytes behind it
abbrev file : List ℕ
file = take 164 table ++ (7 ∷ 7 ∷ [])

case-length : length file ≡ 166
unfolding list_of per_of kind_of is_there first_of second_of common_in sync_word offset_words step_of finish_of goes_on low_at cell_of meets bytes when merging.step_of merging.finish_of
case-length = refl

case-stands : Stands file 0 (take 164 table)
case-stands = record { before = []; behind = 7 ∷ 7 ∷ []; there = refl; place = refl }

case-fit : All Of64 two
case-fit =
    let a : Of64 first = record { offset = omega arith; composition = omega arith } in
    let b : Of64 second = record { offset = omega arith; composition = omega arith } in
    each a (each b nothing)

case-numbered : Numbered 0 0 two
case-numbered = Numbered.one refl refl (Numbered.one refl refl Numbered.none)

-- so what is read lists just these two
case-read : (t : Track) × (track_of file (boxes_at 0 9000 (records_of two) 2 (1 ∷ 2 ∷ 3 ∷ 4 ∷ [])) ≡ Ok t) × (samples_of file t ≡ two)
case-read =
    let h : length file < 2 ^ 64 = omega (arith, case-length) in
    written-reads-back file h two case-fit case-numbered 9000 (1 ∷ 2 ∷ 3 ∷ 4 ∷ []) (replicate 164 9) table 164 0 case-written case-stands
