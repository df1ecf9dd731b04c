-- Which chunk has how many samples (ISO/IEC 14496-12, 8.7.4): a count, and as many runs. First chunks begin at 1 and
-- rise strictly, and no run has 0 samples in a chunk (A21). Assumes nothing.
use Rattle.std.specs.Prelude.{ℕ, ◌+◌, ◌*◌, List, [], ◌∷◌, get_or, Result, Ok, Err}
use Rattle.numbers.specs.Field.{field}
use Rattle.put.specs.Put.{Wrote}
use Rattle.layout.specs.Read.{read_of}
use Rattle.layout.specs.Write.{padded, slotted}
use Rattle.layout.specs.declared.Field.{Field}
use Rattle.layout.specs.declared.Field.TheVariants.{Number, Version, Flags}
use Rattle.rows.specs.Rows.{entries_of}
use Rattle.rows.specs.Judge.{judged_of, write_judged}
use Rattle.rows.specs.declared.Cell.{Cell}
use Rattle.rows.specs.declared.Cell.TheVariants.{FromOne, Least, Any, Nothing}
use Rattle.stsc.specs.declared.Stsc.{Stsc}
use Rattle.stsc.specs.declared.Run.{Run}
use Rattle.numbers.specs.declared.Refusal.{Refusal}

abbrev pub kind : ℕ
kind = 0x73747363

abbrev pub fields : List Field
fields = padded (Version 0 0 ∷ Flags ∷ Number 4 ∷ [])

-- the record from its slots, and back
abbrev pub from : List ℕ → Stsc
from v = record { version = get_or v 0 0; flags = get_or v 1 0; count = get_or v 2 0 }

abbrev pub to : Stsc → List ℕ
to m = slotted (m.version ∷ m.flags ∷ m.count ∷ [])

-- a run: its first chunk, the samples in each chunk, and their description
abbrev pub cells : List Cell
cells = FromOne 4 ∷ Least 4 1 ∷ Any 4 ∷ Nothing ∷ []

abbrev pub size : Stsc → ℕ
size m = m.count * 12

-- how its entries are judged, from a position on
abbrev pub judge : Stsc → List ℕ → ℕ → Result (Unit {0}) Refusal
judge m b at = entries_of m.count cells b at 0

abbrev pub stsc_of : List ℕ → Result (Stsc × ℕ) Refusal
stsc_of part = judged_of from judge part (read_of kind fields part)

abbrev pub stsc_in : Stsc → List ℕ → List ℕ → Wrote
stsc_in m entries out = write_judged kind fields (to m) (size m) (judge m entries 0) entries out

-- the i-th run
abbrev pub entry_of : List ℕ → ℕ → Result Run Refusal
entry_of entries i =
    field Err 4 entries (i * 12)
    (λ c. field Err 4 entries (i * 12 + 4)
    (λ n. field Err 4 entries (i * 12 + 8)
    (λ d. Ok (record { first_chunk = c; samples_per_chunk = n; sample_description_index = d }))))
