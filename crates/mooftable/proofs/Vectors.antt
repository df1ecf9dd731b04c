-- Worked examples of the definitions, computed. Assumes nothing.
use Rattle.std.specs.Prelude.{Ok, Err, Some, None}
use Prim.Native.Nat.{ℕ}
use mathlib.Core.Path.{◌≡◌, refl}
use mathlib.Core.List.{List, [], ◌∷◌, ◌++◌}
use lib.ListN.{replicate}
use Rattle.numbers.specs.Field.{when}
use Rattle.numbers.specs.declared.Refusal.TheVariants as refusal
use Rattle.put.specs.Put.{wrote}
use Rattle.mooftable.specs.declared.Moof.{Moof}
use Rattle.mooftable.specs.Table.{row_at, row_of, rows_of, store_of}

abbrev moof : Moof
moof = record { start = 1200; number = 7; runs = 4 }

abbrev cells : List ℕ
cells = 1200 ∷ 7 ∷ 4 ∷ []

-- the second row is stored, and the first stays
stores : store_of moof 1 (replicate 7 9) ≡ wrote (Ok 2) (replicate 3 9 ++ cells ++ (9 ∷ []))
unfolding when
stores = refl

-- a third has no room, nor has one whose number is the last
no_room : store_of moof 2 (replicate 7 9) ≡ wrote (Err (refusal.TooSmall 3)) (replicate 7 9)
unfolding when
no_room = refl

no_number : store_of moof 0xffff_ffff_ffff_ffff (9 ∷ []) ≡ wrote (Err refusal.Overflow) (9 ∷ [])
unfolding when
no_number = refl

reads : row_of (replicate 3 9 ++ cells) 1 ≡ Some moof
unfolding when row_at
reads = refl

-- a row that is not whole is none
part-of-a-row : row_of (replicate 5 9) 1 ≡ None
unfolding when row_at
part-of-a-row = refl

-- a sequence number that is too large counts by its lower bits
too_large : row_of (1200 ∷ 0x5_0000_0007 ∷ 4 ∷ []) 0 ≡ Some moof
unfolding when row_at
too_large = refl

-- two rows are asked for, and one is there
all : rows_of (cells ++ (9 ∷ [])) 2 ≡ moof ∷ []
unfolding row_at
all = refl
