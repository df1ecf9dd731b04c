-- Worked examples of the definitions: cases 1 and 2 of document 01 as a listing, and what is refused. The file and the
-- tracks are those of tables. Assumes nothing.
use Rattle.std.specs.Prelude.{Ok, Err, Some, None}
use mathlib.Core.Path.{◌≡◌, refl}
use mathlib.Core.List.{[], ◌∷◌}
use mathlib.Core.Bool.{true, false}
use lib.ListN.{replicate}
use Rattle.numbers.specs.Number.{be, bytes}
use Rattle.numbers.specs.Field.{field, when}
use Rattle.numbers.specs.declared.Refusal.TheVariants as refusal
use Rattle.signed.specs.Signed.{signed}
use Rattle.samples.specs.Records.{output, list_of}
use Rattle.tables.specs.Tables.{pair_at, group_at, offset_at, size_at, number_at, chunks}
use Rattle.tables.specs.Samples.{samples_of}
use Rattle.tables.proofs.Vectors.{file, track, common, high}
use Rattle.lists.specs.Count.{count_of, all_low}

-- six records of seven numbers; an offset of -2 is 2^64 - 2; the number past them stays
case-1-and-2 : list_of (samples_of file track) (replicate 43 9)
    ≡ output (Ok 6)
    (1 ∷ 48 ∷ 10 ∷ 0 ∷ 1000 ∷ 7 ∷ 1
    ∷ 2 ∷ 58 ∷ 20 ∷ 1000 ∷ 1000 ∷ 0xffff_ffff_ffff_fffe ∷ 0
    ∷ 3 ∷ 78 ∷ 30 ∷ 2000 ∷ 1000 ∷ 0 ∷ 0
    ∷ 4 ∷ 108 ∷ 40 ∷ 3000 ∷ 500 ∷ 0 ∷ 1
    ∷ 5 ∷ 148 ∷ 50 ∷ 3500 ∷ 500 ∷ 0 ∷ 0
    ∷ 6 ∷ 198 ∷ 60 ∷ 4000 ∷ 500 ∷ 0 ∷ 0
    ∷ 9 ∷ [])
unfolding be bytes field when signed pair_at group_at offset_at size_at number_at
case-1-and-2 = refl

-- 42 numbers are needed: one less is refused, with the number of records, and the buffer stays
case-room : list_of (samples_of file track) (replicate 41 9) ≡ output (Err (refusal.TooSmall 6)) (replicate 41 9)
unfolding be bytes field when signed pair_at group_at offset_at size_at number_at
case-room = refl

-- a sample that ends past 2^64 - 1 is refused, whether there is room or not
case-high : list_of (samples_of file high) (replicate 14 9) ≡ output (Err refusal.Overflow) (replicate 14 9)
unfolding be bytes field when signed pair_at group_at offset_at size_at number_at
case-high = refl

case-high-first : list_of (samples_of file high) [] ≡ output (Err refusal.Overflow) []
unfolding be bytes field when signed pair_at group_at offset_at size_at number_at
case-high-first = refl

-- no samples need no room
case-none : list_of [] [] ≡ output (Ok 0) []
unfolding when
case-none = refl

case_count : count_of (samples_of file track) ≡ Some 6
unfolding count_of be bytes field when signed pair_at group_at offset_at size_at number_at
case_count = refl

-- stsz counts three, stts and stsc six
case-count-common : count_of (samples_of file common) ≡ Some 3
unfolding count_of be bytes field when signed pair_at group_at offset_at size_at number_at
case-count-common = refl

case-count-high : count_of (samples_of file high) ≡ None
unfolding count_of be bytes field when signed pair_at group_at offset_at size_at number_at
case-count-high = refl

case-low : all_low (chunks file track.stco) ≡ true
unfolding be bytes field when offset_at
case-low = refl

case-not-low : all_low (chunks file high.stco) ≡ false
unfolding be bytes field when offset_at
case-not-low = refl

case-half : all_low (0x7fff_ffff_ffff_ffff ∷ 0x8000_0000_0000_0000 ∷ []) ≡ false
case-half = refl
