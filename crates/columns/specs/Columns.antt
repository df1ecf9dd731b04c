-- The samples that a track is built from, as records of seven numbers in a lent buffer (Records.antt of samples): one
-- column of them, and what is asked of its numbers. Assumes nothing.
use Rattle.std.specs.Prelude.{ℕ, ◌+◌, ◌-◌, ◌*◌, ◌/◌, ◌%◌, ◌^◌, List, [], ◌∷◌, Bool, true, ◌&&◌, length, get_or, eqb, leb, ltb}
use Rattle.numbers.specs.Field.{when}
use Rattle.tables.specs.Tables.{listed}
use Rattle.samples.specs.Records.{record-length}
use Rattle.columns.specs.declared.Rule.{Rule}
use Rattle.columns.specs.declared.Rule.TheVariants.{Zero, Narrow, Signed}

-- the number of record i in column k; 0 where there is no such record or column
unfoldable pub cell_of : List ℕ → ℕ → ℕ → ℕ
cell_of rs k i = when (ltb k record-length) (when (ltb i (length rs / record-length)) (get_or rs (i * record-length + k) 0) 0) 0

abbrev pub column_of : List ℕ → ℕ → ℕ → List ℕ
column_of rs n k = listed (cell_of rs k) n

-- its lower 32 bits: the number itself where it has no more, and a signed number of 32 bits in their two's complement
unfoldable pub low_at : List ℕ → ℕ → ℕ → ℕ
low_at rs k i = cell_of rs k i % 2 ^ 32

abbrev pub lows_of : List ℕ → ℕ → ℕ → List ℕ
lows_of rs n k = listed (low_at rs k) n

-- a number is 0; it has 32 bits; it is a signed number of 32 bits, in the two's complement of 64
unfoldable pub meets : Rule → ℕ → Bool
meets Zero x = eqb x 0
meets Narrow x = ltb x (2 ^ 32)
meets Signed x = when (ltb x (2 ^ 31)) true (leb (2 ^ 64 - 2 ^ 31) x)

abbrev pub all_meet : Rule → List ℕ → Bool
all_meet rule [] = true
all_meet rule (x ∷ l) = meets rule x && all_meet rule l
