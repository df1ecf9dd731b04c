-- Worked examples of the definitions, computed. Assumes nothing.
use Rattle.std.specs.Prelude.{Ok, Err, Some, None}
use Prim.Native.Nat.{ℕ}
use mathlib.Core.Path.{◌≡◌, refl}
use mathlib.Core.List.{List, [], ◌∷◌, ◌++◌}
use lib.ListN.{replicate}
use Rattle.numbers.specs.Field.{when}
use Rattle.numbers.specs.declared.Refusal.TheVariants as refusal
use Rattle.put.specs.Put.{wrote}
use Rattle.runs.specs.declared.Run.{Run}
use Rattle.runtable.specs.Table.{row_at, row_of, rows_of, store_of}

abbrev pub run : ℕ → Run
run n = record { track = n; start = 1200; time = 9000; at = 60; trun = record { version = 1; flags = 0x305; sample_count = 3; data_offset = 200; first_sample_flags = 4 }; duration = 40; size = 50; flags = 60 }

abbrev cells : List ℕ
cells = 7 ∷ 1200 ∷ 9000 ∷ 60 ∷ 1 ∷ 0x305 ∷ 3 ∷ 200 ∷ 4 ∷ 40 ∷ 50 ∷ 60 ∷ []

-- the second row is stored, and the first stays
stores : store_of (run 7) 1 (replicate 25 9) ≡ wrote (Ok 2) (replicate 12 9 ++ cells ++ (9 ∷ []))
unfolding when
stores = refl

-- a third has no room, nor has one whose number is the last
no_room : store_of (run 7) 2 (replicate 25 9) ≡ wrote (Err (refusal.TooSmall 3)) (replicate 25 9)
unfolding when
no_room = refl

no_number : store_of (run 7) 0xffff_ffff_ffff_ffff (9 ∷ []) ≡ wrote (Err refusal.Overflow) (9 ∷ [])
unfolding when
no_number = refl

reads : row_of (replicate 12 9 ++ cells) 1 ≡ Some (run 7)
unfolding when row_at
reads = refl

-- a row that is not whole is none
part-of-a-row : row_of (replicate 23 9) 1 ≡ None
unfolding when row_at
part-of-a-row = refl

-- numbers that are too large count by their lower bits
too_large : row_of (0x1_0000_0007 ∷ 1200 ∷ 9000 ∷ 60 ∷ 0x101 ∷ 0x305 ∷ 0xffff_0000_0003 ∷ 200 ∷ 4 ∷ 40 ∷ 50 ∷ 60 ∷ []) 0 ≡ Some (run 7)
unfolding when row_at
too_large = refl

-- two rows are asked for, and one is there
all : rows_of (cells ++ (9 ∷ [])) 2 ≡ run 7 ∷ []
unfolding row_at
all = refl
