-- Worked examples of the definitions: a track of four samples, an empty track, and every refusal. Assumes nothing.
use Rattle.std.specs.Prelude.{Ok, Err}
use mathlib.Core.Path.{◌≡◌, refl}
use mathlib.Core.List.{List, [], ◌∷◌, ◌++◌}
use mathlib.Core.Bool.{true, false}
use Prim.Native.Nat.{ℕ}
use lib.ListN.{replicate}
use Rattle.numbers.specs.Number.{bytes}
use Rattle.numbers.specs.Field.{when}
use Rattle.numbers.specs.declared.Refusal.TheVariants as refusal
use Rattle.put.specs.Put.{wrote}
use Rattle.merging.specs.Merging.{step_of, finish_of}
use Rattle.columns.specs.Columns.{cell_of, low_at, meets}
use Rattle.columns.specs.Entries.{placed_of, built_of}
use Rattle.builder.specs.Built.{stts_of, ctts_of, common_in, stsz_of, sync_word, stss_of}

-- a sample of that size, duration, composition offset and sync
abbrev sample : ℕ → ℕ → ℕ → ℕ → List ℕ
sample size duration composition sync = 0 ∷ 0 ∷ size ∷ 0 ∷ duration ∷ composition ∷ sync ∷ []

-- the third shows two ticks before its time
abbrev track : List ℕ
track = sample 10 1000 0 1 ++ (sample 20 1000 0 0 ++ (sample 20 500 0xffff_ffff_ffff_fffe 1 ++ sample 20 500 0 0))

case-stts : stts_of track 4 (replicate 17 9) ≡ wrote (Ok 16) (0 ∷ 0 ∷ 0 ∷ 2 ∷ 0 ∷ 0 ∷ 3 ∷ 232 ∷ 0 ∷ 0 ∷ 0 ∷ 2 ∷ 0 ∷ 0 ∷ 1 ∷ 244 ∷ 9 ∷ [])
unfolding built_of placed_of step_of finish_of low_at cell_of meets bytes when
case-stts = refl

case-stts-small : stts_of track 4 (replicate 15 9) ≡ wrote (Err (refusal.TooSmall 16)) (replicate 15 9)
unfolding built_of placed_of step_of finish_of low_at cell_of meets bytes when
case-stts-small = refl

-- the first three, and no fifth
case-stts-first : stts_of track 1 (replicate 8 9) ≡ wrote (Ok 8) (0 ∷ 0 ∷ 0 ∷ 1 ∷ 0 ∷ 0 ∷ 3 ∷ 232 ∷ [])
unfolding built_of placed_of step_of finish_of low_at cell_of meets bytes when
case-stts-first = refl

case-stts-fifth : stts_of track 5 [] ≡ wrote (Err (refusal.NoSample 5)) []
unfolding built_of placed_of step_of finish_of low_at cell_of meets bytes when
case-stts-fifth = refl

case-stts-none : stts_of [] 0 (9 ∷ []) ≡ wrote (Ok 0) (9 ∷ [])
unfolding built_of placed_of step_of finish_of low_at cell_of meets bytes when
case-stts-none = refl

-- a duration of 32 bits, and one of 33
case-stts-largest : stts_of (sample 1 0xffff_ffff 0 0) 1 (replicate 8 9) ≡ wrote (Ok 8) (0 ∷ 0 ∷ 0 ∷ 1 ∷ 255 ∷ 255 ∷ 255 ∷ 255 ∷ [])
unfolding built_of placed_of step_of finish_of low_at cell_of meets bytes when
case-stts-largest = refl

case-stts-too-long : stts_of (sample 1 0x1_0000_0000 0 0) 1 (replicate 8 9) ≡ wrote (Err refusal.Unwritable) (replicate 8 9)
unfolding built_of placed_of step_of finish_of low_at cell_of meets bytes when
case-stts-too-long = refl

-- offsets stand from sample 1 on
case-ctts : ctts_of track 4 (replicate 24 9)
    ≡ wrote (Ok 24) (0 ∷ 0 ∷ 0 ∷ 2 ∷ 0 ∷ 0 ∷ 0 ∷ 0 ∷ 0 ∷ 0 ∷ 0 ∷ 1 ∷ 255 ∷ 255 ∷ 255 ∷ 254 ∷ 0 ∷ 0 ∷ 0 ∷ 1 ∷ 0 ∷ 0 ∷ 0 ∷ 0 ∷ [])
unfolding built_of placed_of step_of finish_of low_at cell_of meets bytes when
case-ctts = refl

-- all are 0: absent
case-ctts-absent : ctts_of track 2 (replicate 8 9) ≡ wrote (Ok 0) (replicate 8 9)
unfolding built_of placed_of step_of finish_of low_at cell_of meets bytes when
case-ctts-absent = refl

case-ctts-too-late : ctts_of (sample 1 1 0x8000_0000 0) 1 (replicate 8 9) ≡ wrote (Err refusal.Unwritable) (replicate 8 9)
unfolding built_of placed_of step_of finish_of low_at cell_of meets bytes when
case-ctts-too-late = refl

case-ctts-small : ctts_of track 4 [] ≡ wrote (Err (refusal.TooSmall 24)) []
unfolding built_of placed_of step_of finish_of low_at cell_of meets bytes when
case-ctts-small = refl

case-ctts-fifth : ctts_of track 5 [] ≡ wrote (Err (refusal.NoSample 5)) []
unfolding built_of placed_of step_of finish_of low_at cell_of meets bytes when
case-ctts-fifth = refl

-- not all sizes are equal; those of one sample are; an empty track has none in common, nor have samples of size 0
case-common-not : common_in track 4 ≡ 0
unfolding common_in low_at cell_of meets when
case-common-not = refl

case-common : common_in track 1 ≡ 10
unfolding common_in low_at cell_of meets when
case-common = refl

case-common-empty : common_in track 0 ≡ 0
unfolding common_in low_at cell_of meets when
case-common-empty = refl

case-stsz : stsz_of track 2 (replicate 9 9) ≡ wrote (Ok 8) (0 ∷ 0 ∷ 0 ∷ 10 ∷ 0 ∷ 0 ∷ 0 ∷ 20 ∷ 9 ∷ [])
unfolding built_of placed_of common_in low_at cell_of meets bytes when
case-stsz = refl

case-stsz-common : stsz_of (sample 20 1 0 0 ++ sample 20 1 0 0) 2 (replicate 9 9) ≡ wrote (Ok 0) (replicate 9 9)
unfolding built_of placed_of common_in low_at cell_of meets bytes when
case-stsz-common = refl

case-stsz-zero : stsz_of (sample 0 1 0 0) 1 (replicate 4 9) ≡ wrote (Ok 4) (0 ∷ 0 ∷ 0 ∷ 0 ∷ [])
unfolding built_of placed_of common_in low_at cell_of meets bytes when
case-stsz-zero = refl

case-stsz-too-large : stsz_of (sample 0x1_0000_0000 1 0 0) 1 [] ≡ wrote (Err refusal.Unwritable) []
unfolding built_of placed_of common_in low_at cell_of meets bytes when
case-stsz-too-large = refl

case-stsz-small : stsz_of track 2 (replicate 7 9) ≡ wrote (Err (refusal.TooSmall 8)) (replicate 7 9)
unfolding built_of placed_of common_in low_at cell_of meets bytes when
case-stsz-small = refl

case-stsz-fifth : stsz_of track 5 [] ≡ wrote (Err (refusal.NoSample 5)) []
unfolding built_of placed_of common_in low_at cell_of meets bytes when
case-stsz-fifth = refl

-- samples 1 and 3 are sync
case-stss : stss_of track 4 (replicate 9 9) ≡ wrote (Ok 8) (0 ∷ 0 ∷ 0 ∷ 1 ∷ 0 ∷ 0 ∷ 0 ∷ 3 ∷ 9 ∷ [])
unfolding built_of placed_of sync_word cell_of bytes when
case-stss = refl

case-stss-small : stss_of track 4 (replicate 7 9) ≡ wrote (Err (refusal.TooSmall 8)) (replicate 7 9)
unfolding built_of placed_of sync_word cell_of bytes when
case-stss-small = refl

case-stss-fifth : stss_of track 5 [] ≡ wrote (Err (refusal.NoSample 5)) []
unfolding built_of placed_of sync_word cell_of bytes when
case-stss-fifth = refl
