-- Moofs in a lent table of numbers: a row of three numbers for each, one row behind the other. Assumes nothing.
use Rattle.std.specs.Prelude.{ℕ, ◌+◌, ◌*◌, ◌/◌, ◌%◌, ◌^◌, min, List, [], ◌∷◌, length, get_or, ltb, Option, Ok, Err, Some, None}
use Rattle.std.proofs.lemmas.List.Edits.{sets}
use Rattle.numbers.specs.Field.{when}
use Rattle.numbers.specs.declared.Refusal.TheVariants as refusal
use Rattle.put.specs.Put.{Wrote, wrote}
use Rattle.tables.specs.Tables.{listed}
use Rattle.mooftable.specs.declared.Moof.{Moof}

abbrev pub row_length : ℕ
row_length = 3

-- the numbers of a moof
abbrev pub numbers_of : Moof → List ℕ
numbers_of m = m.start ∷ m.number ∷ m.runs ∷ []

-- how many rows a table holds whole
abbrev pub holds : List ℕ → ℕ
holds t = length t / row_length

-- number k of row i
abbrev pub cell : List ℕ → ℕ → ℕ → ℕ
cell t i k = get_or t (i * row_length + k) 0

-- the moof of row i. Its sequence number, which has 32 bits, is taken by the lower ones: so every table means one list of
-- moofs
unfoldable pub row_at : List ℕ → ℕ → Moof
row_at t i = record { start = cell t i 0; number = cell t i 1 % 2 ^ 32; runs = cell t i 2 }

abbrev pub row_of : List ℕ → ℕ → Option Moof
row_of t i = when (ltb i (holds t)) (Some (row_at t i)) None

-- the first n rows, or as many as the table holds
abbrev pub rows_of : List ℕ → ℕ → List Moof
rows_of t n = listed (row_at t) (min n (holds t))

-- m as row i, and the number of the row after it; 12 with the number of rows needed where there is no room, or 9 where
-- that is no 64-bit number, and the table stays
abbrev pub store_of : Moof → ℕ → List ℕ → Wrote
store_of m i t =
    when (ltb i (holds t)) (wrote (Ok (i + 1)) (sets t (i * row_length) (numbers_of m)))
    (when (ltb (i + 1) (2 ^ 64)) (wrote (Err (refusal.TooSmall (i + 1))) t) (wrote (Err refusal.Overflow) t))
