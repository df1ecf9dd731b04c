-- Worked examples of the definitions: chunks by their durations and by their samples' places, and every refusal.
-- Assumes nothing.
use Rattle.std.specs.Prelude.{Ok, Err}
use mathlib.Core.Path.{◌≡◌, refl}
use mathlib.Core.List.{List, [], ◌∷◌, ◌++◌}
use mathlib.Core.Bool.{true, false}
use Prim.Native.Nat.{ℕ}
use lib.ListN.{replicate}
use Rattle.numbers.specs.Number.{bytes}
use Rattle.numbers.specs.Field.{when}
use Rattle.numbers.specs.declared.Refusal.TheVariants as refusal
use Rattle.put.specs.Put.{wrote}
use Rattle.merging.specs.Merging as merging
use Rattle.columns.specs.Columns.{cell_of, low_at, meets}
use Rattle.columns.specs.Entries.{placed_of, built_of}
use Rattle.chunking.specs.Chunking.{piece, goes_on, step_of, finish_of, chunks_of, chunks_in}
use Rattle.chunking.specs.Entries.{fits_in, offset_words, any_wide, counts_of, offsets_of, stsc_of}

-- a sample at that place, of that size and duration
abbrev sample : ℕ → ℕ → ℕ → List ℕ
sample offset size duration = 0 ∷ offset ∷ size ∷ 0 ∷ duration ∷ 0 ∷ 1 ∷ []

-- two chunks of two samples, and two of one, as in 01's case 2; each chunk begins away from the one before
abbrev track : List ℕ
track = sample 48 10 1000 ++ (sample 58 20 1000 ++ (sample 100 30 1000 ++ (sample 130 40 500 ++ (sample 200 50 500 ++ sample 300 60 500))))

case-2-offsets : offsets_of 9000 track 6 (replicate 17 9) ≡ wrote (Ok 16) (0 ∷ 0 ∷ 0 ∷ 48 ∷ 0 ∷ 0 ∷ 0 ∷ 100 ∷ 0 ∷ 0 ∷ 0 ∷ 200 ∷ 0 ∷ 0 ∷ 1 ∷ 44 ∷ 9 ∷ [])
unfolding built_of placed_of fits_in offset_words step_of finish_of goes_on low_at cell_of meets bytes when
case-2-offsets = refl

-- two entries, (1, 2) and (3, 1)
case-2-stsc : stsc_of 9000 track 6 (replicate 24 9)
    ≡ wrote (Ok 24) (0 ∷ 0 ∷ 0 ∷ 1 ∷ 0 ∷ 0 ∷ 0 ∷ 2 ∷ 0 ∷ 0 ∷ 0 ∷ 1 ∷ 0 ∷ 0 ∷ 0 ∷ 3 ∷ 0 ∷ 0 ∷ 0 ∷ 1 ∷ 0 ∷ 0 ∷ 0 ∷ 1 ∷ [])
unfolding built_of placed_of fits_in step_of finish_of goes_on low_at cell_of meets bytes when merging.step_of merging.finish_of
case-2-stsc = refl

-- a chunk closes after the sample that makes its durations reach one timescale: 2 does not reach 3, and 4 does
case-durations : counts_of (chunks_of 3 (piece 0 1 2 ∷ piece 1 1 2 ∷ piece 2 1 2 ∷ [])) ≡ 2 ∷ 1 ∷ []
unfolding step_of finish_of goes_on when
case-durations = refl

-- it reaches it just so, and is one short of it
case-just : counts_of (chunks_of 4 (piece 0 1 2 ∷ piece 1 1 2 ∷ piece 2 1 2 ∷ [])) ≡ 2 ∷ 1 ∷ []
unfolding step_of finish_of goes_on when
case-just = refl

case-short : counts_of (chunks_of 5 (piece 0 1 2 ∷ piece 1 1 2 ∷ piece 2 1 2 ∷ [])) ≡ 3 ∷ []
unfolding step_of finish_of goes_on when
case-short = refl

-- a hole and an overlap close a chunk
case-hole : counts_of (chunks_of 9 (piece 0 1 1 ∷ piece 2 1 1 ∷ [])) ≡ 1 ∷ 1 ∷ []
unfolding step_of finish_of goes_on when
case-hole = refl

case-overlap : counts_of (chunks_of 9 (piece 5 2 1 ∷ piece 6 1 1 ∷ [])) ≡ 1 ∷ 1 ∷ []
unfolding step_of finish_of goes_on when
case-overlap = refl

-- stco for the last place that has 32 bits, co64 for the next
case-narrow : offsets_of 1 (sample 0xffff_ffff 1 1) 1 (replicate 4 9) ≡ wrote (Ok 4) (255 ∷ 255 ∷ 255 ∷ 255 ∷ [])
unfolding built_of placed_of fits_in offset_words step_of finish_of goes_on low_at cell_of meets bytes when
case-narrow = refl

case-wide : offsets_of 1 (sample 0x1_0000_0002 1 1) 1 (replicate 8 9) ≡ wrote (Ok 8) (0 ∷ 0 ∷ 0 ∷ 1 ∷ 0 ∷ 0 ∷ 0 ∷ 2 ∷ [])
unfolding built_of placed_of fits_in offset_words step_of finish_of goes_on low_at cell_of meets bytes when
case-wide = refl

-- only a chunk's own place counts: the second sample lies past 32 bits, in the chunk of the first
case-not-wide : any_wide (chunks_in 9 (sample 0xffff_ffff 1 1 ++ sample 0x1_0000_0000 1 1) 2) ≡ false
unfolding step_of finish_of goes_on low_at cell_of when
case-not-wide = refl

case-none : offsets_of 1 [] 0 (9 ∷ []) ≡ wrote (Ok 0) (9 ∷ [])
unfolding built_of placed_of fits_in offset_words step_of finish_of goes_on low_at cell_of meets bytes when
case-none = refl

-- 8 comes first, then 11, 13 and 12
case-8 : offsets_of 0 track 7 [] ≡ wrote (Err (refusal.Value 0)) []
unfolding when
case-8 = refl

case-11 : offsets_of 1 track 7 [] ≡ wrote (Err (refusal.NoSample 7)) []
unfolding built_of placed_of fits_in offset_words step_of finish_of goes_on low_at cell_of meets bytes when
case-11 = refl

case-13-size : offsets_of 1 (sample 0 0x1_0000_0000 1) 1 [] ≡ wrote (Err refusal.Unwritable) []
unfolding built_of placed_of fits_in offset_words step_of finish_of goes_on low_at cell_of meets bytes when
case-13-size = refl

case-13-duration : stsc_of 1 (sample 0 1 0x1_0000_0000) 1 [] ≡ wrote (Err refusal.Unwritable) []
unfolding built_of placed_of fits_in offset_words step_of finish_of goes_on low_at cell_of meets bytes when merging.step_of merging.finish_of
case-13-duration = refl

case-12 : stsc_of 1 (sample 0 1 1) 1 (replicate 11 9) ≡ wrote (Err (refusal.TooSmall 12)) (replicate 11 9)
unfolding built_of placed_of fits_in offset_words step_of finish_of goes_on low_at cell_of meets bytes when merging.step_of merging.finish_of
case-12 = refl
