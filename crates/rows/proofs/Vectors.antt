-- Worked examples of the definitions, computed. Assumes nothing.
use Rattle.std.specs.Prelude.{Ok, Err}
use mathlib.Core.Path.{◌≡◌, refl}
use mathlib.Core.List.{List, [], ◌∷◌, ◌++◌}
use mathlib.Core.Bool.{true, false}
use Prim.Native.Nat.{ℕ}
use Rattle.numbers.specs.Number.{be, bytes}
use Rattle.numbers.specs.Field.{field, when}
use Rattle.numbers.specs.declared.Refusal.TheVariants as refusal
use Rattle.rows.specs.Rows.{width_of, time_of, allowed_of, last_of, cells_of, entries_of}
use Rattle.rows.specs.declared.Cell.{Cell}
use Rattle.rows.specs.declared.Cell.TheVariants.{Any, Least, Rising, FromOne, Time, Nothing}

-- a rising number of 2 bytes, and one of a byte that is 5 or more
abbrev cells : List Cell
cells = Rising 2 ∷ Least 1 5 ∷ Nothing ∷ Nothing ∷ []

abbrev pair : ℕ → ℕ → List ℕ
pair a b = bytes 2 a ++ bytes 1 b

fine : entries_of 2 cells (pair 1 5 ++ pair 256 6) 0 0 ≡ (Ok tt)
unfolding be bytes field when width_of allowed_of last_of cells_of entries_of
fine = refl

none : entries_of 0 cells [] 9 0 ≡ (Ok tt)
unfolding entries_of
none = refl

-- each fault is told at its own field, and the first of two faults is told
equal : entries_of 2 cells (pair 7 5 ++ pair 7 4) 0 0 ≡ Err (refusal.Value 3)
unfolding be bytes field when width_of allowed_of last_of cells_of entries_of
equal = refl

too_small : entries_of 2 cells (pair 7 4 ++ pair 7 4) 0 0 ≡ Err (refusal.Value 2)
unfolding be bytes field when width_of allowed_of last_of cells_of entries_of
too_small = refl

cut : entries_of 3 cells (pair 7 5 ++ bytes 2 8) 0 0 ≡ Err (refusal.Cut 5)
unfolding be bytes field when width_of allowed_of last_of cells_of entries_of
cut = refl

-- a rising number is never 0
zero-first : entries_of 1 cells (pair 0 5) 0 0 ≡ Err (refusal.Value 0)
unfolding be bytes field when width_of allowed_of last_of cells_of entries_of
zero-first = refl

-- -1 is a time, -2 is none, and the largest number is one
minus-1 : time_of 4 0xffff_ffff ≡ true
unfolding when
minus-1 = refl

minus-2 : time_of 4 0xffff_fffe ≡ false
unfolding when
minus-2 = refl

least-negative : time_of 8 0x8000_0000_0000_0000 ≡ false
unfolding when
least-negative = refl

largest : time_of 8 0x7fff_ffff_ffff_ffff ≡ true
unfolding when
largest = refl
