-- The sample table of a track, written from its samples (ISO/IEC 14496-12, 8.5.1; 01, Writer; A56 to A62): a box around
-- the sample descriptions, which are handed in, and the boxes of the tables in the standard's order. The samples are the
-- first n records of a buffer. Every field behind the sample descriptions has four bytes, so that the boxes are told by
-- their numbers; a place in co64 is two. Assumes nothing.
use Rattle.std.specs.Prelude.{ℕ, ◌+◌, ◌*◌, ◌/◌, ◌^◌, List, [], ◌∷◌, ◌++◌, Bool, true, false, not, length, eqb, leb, ltb, Err}
use Rattle.numbers.specs.Field.{when}
use Rattle.numbers.specs.declared.Refusal.TheVariants as refusal
use Rattle.put.specs.Put.{Wrote, wrote}
use Rattle.layout.specs.Write.{full, place}
use Rattle.places.specs.Kinds as kinds
use Rattle.columns.specs.declared.Rule.TheVariants.{Zero, Signed}
use Rattle.columns.specs.Columns.{column_of, lows_of, all_meet}
use Rattle.columns.specs.Entries.{words_of}
use Rattle.builder.specs.Built as builder
use Rattle.chunking.specs.Chunking.{chunks_in}
use Rattle.chunking.specs.Entries as chunking
use Rattle.sampletable.specs.declared.Table.{Table}
use Rattle.sampletable.specs.declared.Table.TheVariants.{Stts, Ctts, Stsc, Stsz, Offsets, Stss}

-- a place of a chunk has no 32 bits
abbrev pub wide_in : ℕ → List ℕ → ℕ → Bool
wide_in scale rs n = chunking.any_wide (chunks_in scale rs n)

-- A TABLE

-- its entries, as numbers
unfoldable pub list_of : Table → ℕ → List ℕ → ℕ → List ℕ
list_of Stts scale rs n = builder.runs_of rs n 4
list_of Ctts scale rs n = when (all_meet Zero (column_of rs n 5)) [] (builder.runs_of rs n 5)
list_of Stsc scale rs n = chunking.groups_in scale rs n
list_of Stsz scale rs n = when (eqb (builder.common_in rs n) 0) (lows_of rs n 2) []
list_of Offsets scale rs n = chunking.offsets_by (wide_in scale rs n) (chunks_in scale rs n)
list_of Stss scale rs n = builder.syncs_in rs n

-- the numbers of an entry
unfoldable pub per_of : Table → Bool → ℕ
per_of Stts wide = 2
per_of Ctts wide = 2
per_of Stsc wide = 3
per_of Stsz wide = 1
per_of Offsets wide = when wide 2 1
per_of Stss wide = 1

unfoldable pub kind_of : Table → Bool → ℕ
kind_of Stts wide = kinds.stts
kind_of Ctts wide = kinds.ctts
kind_of Stsc wide = kinds.stsc
kind_of Stsz wide = kinds.stsz
kind_of Offsets wide = when wide kinds.co64 kinds.stco
kind_of Stss wide = kinds.stss

-- it is written: ctts where an offset is not 0 (A57), stss where there is a sample (A56), the others always
unfoldable pub is_there : Table → List ℕ → ℕ → Bool
is_there Stts rs n = true
is_there Ctts rs n = not (all_meet Zero (column_of rs n 5))
is_there Stsc rs n = true
is_there Stsz rs n = true
is_there Offsets rs n = true
is_there Stss rs n = not (eqb n 0)

-- the number behind version and flags: how many entries there are; in stsz the size in common (A58)
unfoldable pub first_of : Table → Bool → List ℕ → ℕ → ℕ → ℕ
first_of Stsz wide rs n many = builder.common_in rs n
first_of Stts wide rs n many = many / 2
first_of Ctts wide rs n many = many / 2
first_of Stsc wide rs n many = many / 3
first_of Offsets wide rs n many = many / per_of Offsets wide
first_of Stss wide rs n many = many

-- and what comes before the entries behind that: in stsz the number of samples
unfoldable pub second_of : Table → ℕ → List ℕ
second_of Stsz n = n ∷ []
second_of Stts n = []
second_of Ctts n = []
second_of Stsc n = []
second_of Offsets n = []
second_of Stss n = []

-- a box of these numbers: its size, its type, version 0 and no flags
abbrev pub box_of : ℕ → List ℕ → List ℕ
box_of kind ns = (12 + length ns * 4) ∷ kind ∷ 0 ∷ ns

abbrev pub head_of : Table → ℕ → List ℕ → ℕ → List ℕ
head_of t scale rs n = first_of t (wide_in scale rs n) rs n (length (list_of t scale rs n)) ∷ second_of t n

abbrev pub table_of : Table → ℕ → List ℕ → ℕ → List ℕ
table_of t scale rs n =
    when (is_there t rs n) (box_of (kind_of t (wide_in scale rs n)) (head_of t scale rs n ++ list_of t scale rs n)) []

-- ALL TABLES

abbrev pub tables_of : ℕ → List ℕ → ℕ → List ℕ
tables_of scale rs n =
    table_of Stts scale rs n
    ++ (table_of Ctts scale rs n ++ (table_of Stsc scale rs n ++ (table_of Stsz scale rs n ++ (table_of Offsets scale rs n ++ table_of Stss scale rs n))))

-- the box around them, the sample descriptions first
abbrev pub stbl_of : ℕ → List ℕ → ℕ → List ℕ → List ℕ
stbl_of scale rs n stsd = full kinds.stbl [] (stsd ++ words_of (tables_of scale rs n))

-- sizes and durations have 32 bits, composition offsets are signed numbers of 32 bits
unfoldable pub fits_in : List ℕ → ℕ → Bool
fits_in rs n = when (chunking.fits_in rs n) (all_meet Signed (column_of rs n 5)) false

-- 8 for a timescale of 0; 11 with n where the buffer has no n records; 13 where there are more samples than 32 bits count,
-- where a number does not fit its field (A60) or where the box has no size of 32 bits; 12 with the length needed last (A61)
abbrev pub stbl_in : ℕ → List ℕ → ℕ → List ℕ → List ℕ → Wrote
stbl_in scale rs n stsd o =
    when (eqb scale 0) (wrote (Err (refusal.Value 0)) o)
    (when (leb (n * 7) (length rs))
    (when (ltb n (2 ^ 32)) (when (fits_in rs n) (place o (stbl_of scale rs n stsd)) (wrote (Err refusal.Unwritable) o)) (wrote (Err refusal.Unwritable) o))
    (wrote (Err (refusal.NoSample n)) o))
