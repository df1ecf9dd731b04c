-- The rows of a table by their number: an entry of stts or ctts; or one of stsc, as a run of chunks. `rows-pairs` and
-- `rows-groups` (proofs/Lists.antt) say that they are the rows of Tables.antt. Assumes nothing.
use Rattle.std.specs.Prelude.{ℕ, ◌+◌, ◌-◌, ◌*◌, List, Bool, true, false, ltb}
use Rattle.numbers.specs.Field.{when, or_zero}
use Rattle.tables.specs.Tables.{listed, pair_at}
use Rattle.tables.specs.declared.Table.{Table}
use Rattle.tables.specs.declared.Rows.{Rows}
use Rattle.tables.specs.declared.Row.{Row}

abbrev pub pair_rows : Table → Rows
pair_rows t = record { at = t.at; count = t.count; grouped = false; chunks = 0 }

abbrev pub group_rows : Table → ℕ → Rows
group_rows t n = record { at = t.at; count = t.count; grouped = true; chunks = n }

-- the chunk after the last one of stsc's entry i
unfoldable pub end_at : List ℕ → Rows → ℕ → ℕ
end_at f t i = when (ltb (i + 1) t.count) (or_zero 4 f (t.at + (i * 12 + 12))) (t.chunks + 1)

-- row i: an entry of stts or ctts; or one of stsc, as a run of chunks
unfoldable pub row_by : Bool → List ℕ → Rows → ℕ → Row
row_by false f t i = pair_at f t.at i
row_by true f t i = record { count = end_at f t i - or_zero 4 f (t.at + i * 12); value = or_zero 4 f (t.at + (i * 12 + 4)) }

abbrev pub row_at : List ℕ → Rows → ℕ → Row
row_at f t i = row_by t.grouped f t i

abbrev pub rows_of : List ℕ → Rows → List Row
rows_of f t = listed (row_at f t) t.count
