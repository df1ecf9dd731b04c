-- Worked examples of the definitions: a track of two samples, one with a composition offset, one behind 4 GiB, an empty
-- track, and every refusal. Assumes nothing.
use Rattle.std.specs.Prelude.{Ok, Err}
use mathlib.Core.Path.{◌≡◌, refl}
use mathlib.Core.List.{List, [], ◌∷◌, ◌++◌}
use Prim.Native.Nat.{ℕ}
use lib.ListN.{replicate}
use Rattle.numbers.specs.Number.{bytes}
use Rattle.numbers.specs.Field.{when}
use Rattle.numbers.specs.declared.Refusal.TheVariants as refusal
use Rattle.put.specs.Put.{wrote}
use Rattle.places.specs.Kinds as kinds
use Rattle.merging.specs.Merging as merging
use Rattle.columns.specs.Columns.{cell_of, low_at, meets}
use Rattle.columns.specs.Entries.{placed_of, built_of}
use Rattle.builder.specs.Built.{common_in, sync_word}
use Rattle.chunking.specs.Chunking.{goes_on, step_of, finish_of}
use Rattle.chunking.specs.Entries as chunking
use Rattle.chunking.specs.Entries.{offset_words}
use Rattle.sampletable.specs.declared.Table.TheVariants.{Ctts, Stsz, Offsets, Stss}
use Rattle.sampletable.specs.SampleTable.{list_of, per_of, kind_of, is_there, first_of, second_of, table_of, tables_of, stbl_in, fits_in}
use Rattle.sampletable.specs.Inside.{entries_in, told_by, behind_of}

-- a sample at that place, of that size, duration, composition offset and sync
abbrev sample : ℕ → ℕ → ℕ → ℕ → ℕ → List ℕ
sample offset size duration composition sync = 0 ∷ offset ∷ size ∷ 0 ∷ duration ∷ composition ∷ sync ∷ []

abbrev two : List ℕ
two = sample 48 10 1000 0 1 ++ sample 58 20 1000 0 0

-- one run, one chunk of two samples, two sizes, sync sample 1; no ctts
case-tables : tables_of 9000 two 2
    ≡ 24 ∷ kinds.stts ∷ 0 ∷ 1 ∷ 2 ∷ 1000
    ∷ 28 ∷ kinds.stsc ∷ 0 ∷ 1 ∷ 1 ∷ 2 ∷ 1
    ∷ 28 ∷ kinds.stsz ∷ 0 ∷ 0 ∷ 2 ∷ 10 ∷ 20
    ∷ 20 ∷ kinds.stco ∷ 0 ∷ 1 ∷ 48
    ∷ 20 ∷ kinds.stss ∷ 0 ∷ 1 ∷ 1 ∷ []
unfolding list_of per_of kind_of is_there first_of second_of common_in sync_word offset_words step_of finish_of goes_on low_at cell_of meets when merging.step_of merging.finish_of
case-tables = refl

-- an offset of -2 in one run of two, and both sizes in common
case-ctts : table_of Ctts 1 (sample 0 7 1 0xffff_ffff_ffff_fffe 1 ++ sample 7 7 1 0xffff_ffff_ffff_fffe 1) 2 ≡ 24 ∷ kinds.ctts ∷ 0 ∷ 1 ∷ 2 ∷ 0xffff_fffe ∷ []
unfolding list_of per_of kind_of is_there first_of second_of low_at cell_of meets when merging.step_of merging.finish_of
case-ctts = refl

case-stsz-common : table_of Stsz 1 (sample 0 7 1 0 1 ++ sample 7 7 1 0 1) 2 ≡ 20 ∷ kinds.stsz ∷ 0 ∷ 7 ∷ 2 ∷ []
unfolding list_of per_of kind_of is_there first_of second_of common_in low_at cell_of meets when
case-stsz-common = refl

-- a place past 32 bits is two numbers of co64, which is one entry
case-co64 : table_of Offsets 1 (sample 0x1_0000_0002 1 1 0 1) 1 ≡ 24 ∷ kinds.co64 ∷ 0 ∷ 1 ∷ 1 ∷ 2 ∷ []
unfolding list_of per_of kind_of is_there first_of second_of offset_words step_of finish_of goes_on low_at cell_of when
case-co64 = refl

-- no sample is sync: the box is there, and has no entry
case-stss-empty : table_of Stss 1 (sample 0 1 1 0 0) 1 ≡ 16 ∷ kinds.stss ∷ 0 ∷ 0 ∷ []
unfolding list_of per_of kind_of is_there first_of second_of sync_word cell_of when
case-stss-empty = refl

-- there is no sample: neither ctts nor stss
case-empty : tables_of 1 [] 0 ≡ 16 ∷ kinds.stts ∷ 0 ∷ 0 ∷ 16 ∷ kinds.stsc ∷ 0 ∷ 0 ∷ 20 ∷ kinds.stsz ∷ 0 ∷ 0 ∷ 0 ∷ 16 ∷ kinds.stco ∷ 0 ∷ 0 ∷ []
unfolding list_of per_of kind_of is_there first_of second_of common_in sync_word offset_words step_of finish_of goes_on low_at cell_of meets when merging.step_of merging.finish_of
case-empty = refl

-- the whole box of an empty track around three bytes that are handed in; what lies past it stays
case-whole : stbl_in 1 [] 0 (1 ∷ 2 ∷ 3 ∷ []) (replicate 81 9)
    ≡ wrote (Ok 79)
    (bytes 4 79 ++ bytes 4 kinds.stbl ++ (1 ∷ 2 ∷ 3 ∷ [])
    ++ bytes 4 16 ++ bytes 4 kinds.stts ++ replicate 8 0
    ++ bytes 4 16 ++ bytes 4 kinds.stsc ++ replicate 8 0
    ++ bytes 4 20 ++ bytes 4 kinds.stsz ++ replicate 12 0
    ++ bytes 4 16 ++ bytes 4 kinds.stco ++ replicate 8 0 ++ (9 ∷ 9 ∷ []))
unfolding list_of per_of kind_of is_there first_of second_of fits_in chunking.fits_in common_in sync_word offset_words step_of finish_of goes_on low_at cell_of meets bytes when merging.step_of merging.finish_of
case-whole = refl

-- 8 comes first, then 11, 13 and 12
case-8 : stbl_in 0 two 3 [] [] ≡ wrote (Err (refusal.Value 0)) []
unfolding when
case-8 = refl

case-11 : stbl_in 1 two 3 [] [] ≡ wrote (Err (refusal.NoSample 3)) []
unfolding when
case-11 = refl

case-13-size : stbl_in 1 (sample 0 0x1_0000_0000 1 0 1) 1 [] [] ≡ wrote (Err refusal.Unwritable) []
unfolding fits_in chunking.fits_in cell_of meets when
case-13-size = refl

case-13-composition : stbl_in 1 (sample 0 1 1 0x8000_0000 1) 1 [] [] ≡ wrote (Err refusal.Unwritable) []
unfolding fits_in chunking.fits_in cell_of meets when
case-13-composition = refl

case-12 : stbl_in 1 [] 0 [] (replicate 75 9) ≡ wrote (Err (refusal.TooSmall 76)) (replicate 75 9)
unfolding list_of per_of kind_of is_there first_of second_of fits_in chunking.fits_in common_in sync_word offset_words step_of finish_of goes_on low_at cell_of meets bytes when merging.step_of merging.finish_of
case-12 = refl

-- inside: what a builder writes, the length that an answer tells, and the bytes before the entries of stsz
case-entries : entries_in Stss 1 two 2 [] ≡ wrote (Err (refusal.TooSmall 4)) []
unfolding entries_in built_of placed_of sync_word cell_of when
case-entries = refl

case-told : told_by (Err (refusal.TooSmall 4)) ≡ 4
case-told = refl

case-behind : behind_of Stsz ≡ 4
unfolding behind_of
case-behind = refl
