-- What a track's tables say of the sample of one number, counted from 0 here: a value of a table of runs, with the sum of
-- the values before it (ISO/IEC 14496-12, 8.6.1.2 and 8.6.1.3); the chunk that it lies in (8.7.4); the bytes between two
-- samples (8.7.3). Every number in ℕ. Assumes nothing.
use Rattle.std.specs.Prelude.{ℕ, suc, ◌-◌, ◌*◌, ◌/◌, ◌^◌, List, [], ◌∷◌, length, take, drop, ltb}
use Rattle.numbers.specs.Field.{when, or_zero}
use Rattle.tables.specs.Tables.{list_from, sum, values_of, size_at}
use Rattle.tables.specs.Rows.{rows_of}
use Rattle.tables.specs.declared.Rows.{Rows}
use Rattle.tables.specs.declared.Sizes.{Sizes}
use Rattle.seek.specs.declared.Value.{Value}
use Rattle.seek.specs.declared.Value.TheVariants as value
use Rattle.seek.specs.declared.Spot.{Spot}
use Rattle.seek.specs.declared.Spot.TheVariants as spot

-- the first of these values, where those before it are s together; or that there are only so many
abbrev pub headed : ℕ → ℕ → List ℕ → Value
headed few s [] = value.Few few
headed few s (v ∷ l) = value.At v s

-- value k of a list, and the sum of those before it
abbrev pub value_of : List ℕ → ℕ → Value
value_of l k = headed (length l) (sum (take k l)) (drop k l)

-- how many samples each chunk has, of as many chunks as there are
abbrev pub per_chunk : List ℕ → Rows → List ℕ
per_chunk f t = take t.chunks (values_of (rows_of f t))

-- the chunk of sample k, where ns are in the chunks from chunk i on, and how many of that chunk come before it
abbrev pub spot_from : ℕ → ℕ → List ℕ → ℕ → Spot
spot_from few i [] k = spot.Few few
spot_from few i (n ∷ ns) k = when (ltb k n) (spot.At i k) (spot_from few (suc i) ns (k - n))

abbrev pub spot_of : List ℕ → ℕ → Spot
spot_of ns k = spot_from (sum ns) 0 ns k

-- the bytes of the samples from the first number up to, and without, the second
unfoldable pub span_of : List ℕ → Sizes → ℕ → ℕ → ℕ
span_of f t from to = sum (list_from (size_at f t) (to - from) from)

-- INSIDE

-- the bytes of as many sizes as stsz can count
abbrev pub longest : ℕ
longest = (2 ^ 32 - 1) * 4

-- number i of four bytes in a part, and all of them that are whole, added up
abbrev pub word_of : List ℕ → ℕ → ℕ
word_of p i = or_zero 4 p (i * 4)

unfoldable pub words_sum : List ℕ → ℕ
words_sum p = sum (list_from (word_of p) (length p / 4) 0)
