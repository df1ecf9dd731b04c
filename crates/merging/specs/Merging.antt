-- Values merged into rows (01, Writer: "stts and ctts runs merged to the fewest entries"; ISO/IEC 14496-12, 8.6.1.2 and
-- 8.6.1.3, where a row's count has 32 bits). `merged-values` and `fewest` (proofs/Fewest.antt) say that the rows are the
-- values again, and that no rows of the same values are fewer. Assumes nothing.
use Rattle.std.specs.Prelude.{ℕ, ◌+◌, ◌-◌, ◌^◌, List, [], ◌∷◌, ◌++◌, eqb, ltb}
use Rattle.numbers.specs.Field.{when}
use Rattle.tables.specs.declared.Row.{Row}
use Rattle.merging.specs.declared.Open.{Open}
use Rattle.merging.specs.declared.Step.{Step}
use Rattle.merging.specs.declared.Step.TheVariants.{Longer, Closed}

-- the most that a row counts
abbrev pub most : ℕ
most = 2 ^ 32 - 1

abbrev pub run : ℕ → ℕ → Open
run c v = record { count = c; value = v }

abbrev pub fresh : Open
fresh = run 0 0

-- a run as the row that it closes to
abbrev pub row_of : Open → Row
row_of o = record { count = o.count; value = o.value }

-- the run is closed, and v opens the next
abbrev pub closed_by : Open → ℕ → Step
closed_by o v = Closed o (run 1 v)

-- one more value: the same makes the run longer, as far as a row counts; another closes it, where it counts any
unfoldable pub step_of : Open → ℕ → Step
step_of o v =
    when (eqb o.count 0) (Longer (run 1 v))
    (when (eqb v o.value) (when (ltb o.count most) (Longer (run (o.count + 1) v)) (closed_by o v)) (closed_by o v))

-- no more values
unfoldable pub finish_of : Open → Step
finish_of o = when (eqb o.count 0) (Longer fresh) (Closed o fresh)

-- the row that a step closed, if any, and the run that is open after it
abbrev pub rows_of : Step → List Row
rows_of (Longer o) = []
rows_of (Closed r o) = row_of r ∷ []

abbrev pub open_of : Step → Open
open_of (Longer o) = o
open_of (Closed r o) = o

-- the rows of an open run and the values after it
abbrev pub merged_from : Open → List ℕ → List Row
merged_from o [] = rows_of (finish_of o)
merged_from o (v ∷ l) = rows_of (step_of o v) ++ merged_from (open_of (step_of o v)) l

-- the rows of the values
abbrev pub merged_of : List ℕ → List Row
merged_of l = merged_from fresh l
