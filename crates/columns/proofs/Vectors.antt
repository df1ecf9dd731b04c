-- Worked examples of the definitions: cells of two records, the rules' limits, numbers in a buffer. Assumes nothing.
use Rattle.std.specs.Prelude.{Ok, Err}
use mathlib.Core.Path.{◌≡◌, refl}
use mathlib.Core.List.{List, [], ◌∷◌}
use mathlib.Core.Bool.{true, false}
use Prim.Native.Nat.{ℕ}
use lib.ListN.{replicate}
use Rattle.numbers.specs.Number.{bytes}
use Rattle.numbers.specs.Field.{when}
use Rattle.numbers.specs.declared.Refusal.TheVariants as refusal
use Rattle.put.specs.Put.{wrote}
use Rattle.columns.specs.declared.Rule.TheVariants.{Zero, Narrow, Signed}
use Rattle.columns.specs.Columns.{cell_of, column_of, low_at, lows_of, meets}
use Rattle.columns.specs.Entries.{word_of, placed_of, built_of}

-- two samples; the second lies 5 behind the first, and its composition offset is -2
abbrev two : List ℕ
two = 1 ∷ 48 ∷ 10 ∷ 0 ∷ 1000 ∷ 0 ∷ 1 ∷ 2 ∷ 63 ∷ 20 ∷ 1000 ∷ 500 ∷ 0xffff_ffff_ffff_fffe ∷ 0 ∷ []

case-sizes : column_of two 2 2 ≡ 10 ∷ 20 ∷ []
unfolding cell_of when
case-sizes = refl

case-composition : lows_of two 2 5 ≡ 0 ∷ 0xffff_fffe ∷ []
unfolding low_at cell_of when
case-composition = refl

-- no third record, and no eighth column, though the buffer has a number there
case-no-record : cell_of two 2 2 ≡ 0
unfolding cell_of when
case-no-record = refl

case-no-column : cell_of two 7 0 ≡ 0
unfolding cell_of when
case-no-column = refl

case-narrow : meets Narrow 0xffff_ffff ≡ true
unfolding meets when
case-narrow = refl

case-not-narrow : meets Narrow 0x1_0000_0000 ≡ false
unfolding meets when
case-not-narrow = refl

case-signed-largest : meets Signed 0x7fff_ffff ≡ true
unfolding meets when
case-signed-largest = refl

case-signed-too-large : meets Signed 0x8000_0000 ≡ false
unfolding meets when
case-signed-too-large = refl

case-signed-least : meets Signed 0xffff_ffff_8000_0000 ≡ true
unfolding meets when
case-signed-least = refl

case-signed-too-small : meets Signed 0xffff_ffff_7fff_ffff ≡ false
unfolding meets when
case-signed-too-small = refl

case-word : word_of (replicate 9 9) 1 258 ≡ 9 ∷ 9 ∷ 9 ∷ 9 ∷ 0 ∷ 0 ∷ 1 ∷ 2 ∷ 9 ∷ []
unfolding word_of bytes when
case-word = refl

case-no-room : word_of (replicate 7 9) 1 258 ≡ replicate 7 9
unfolding word_of bytes when
case-no-room = refl

-- what lies past the numbers stays
case-placed : placed_of (1 ∷ 2 ∷ []) (replicate 9 9) ≡ wrote (Ok 8) (0 ∷ 0 ∷ 0 ∷ 1 ∷ 0 ∷ 0 ∷ 0 ∷ 2 ∷ 9 ∷ [])
unfolding placed_of bytes when
case-placed = refl

case-small : placed_of (1 ∷ 2 ∷ []) (replicate 7 9) ≡ wrote (Err (refusal.TooSmall 8)) (replicate 7 9)
unfolding placed_of bytes when
case-small = refl

-- 11 comes before 13, and 13 before 12
case-11 : built_of two 3 false (1 ∷ []) [] ≡ wrote (Err (refusal.NoSample 3)) []
unfolding built_of placed_of bytes when
case-11 = refl

case-13 : built_of two 2 false (1 ∷ []) [] ≡ wrote (Err refusal.Unwritable) []
unfolding built_of placed_of bytes when
case-13 = refl

case-12 : built_of two 2 true (1 ∷ []) [] ≡ wrote (Err (refusal.TooSmall 4)) []
unfolding built_of placed_of bytes when
case-12 = refl
