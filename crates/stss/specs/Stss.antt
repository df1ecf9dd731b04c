-- The sync samples (ISO/IEC 14496-12, 8.6.2): a count, and as many sample numbers, from 1 on and strictly rising
-- (A21). Assumes nothing.
use Rattle.std.specs.Prelude.{ℕ, ◌+◌, ◌*◌, List, [], ◌∷◌, get_or, Result, Ok, Err}
use Rattle.numbers.specs.Field.{field}
use Rattle.put.specs.Put.{Wrote}
use Rattle.layout.specs.Read.{read_of}
use Rattle.layout.specs.Write.{padded, slotted}
use Rattle.layout.specs.declared.Field.{Field}
use Rattle.layout.specs.declared.Field.TheVariants.{Number, Version, Flags}
use Rattle.rows.specs.Rows.{entries_of}
use Rattle.rows.specs.Judge.{judged_of, write_judged}
use Rattle.rows.specs.declared.Cell.{Cell}
use Rattle.rows.specs.declared.Cell.TheVariants.{Rising, Nothing}
use Rattle.stss.specs.declared.Stss.{Stss}
use Rattle.numbers.specs.declared.Refusal.{Refusal}

abbrev pub kind : ℕ
kind = 0x73747373

abbrev pub fields : List Field
fields = padded (Version 0 0 ∷ Flags ∷ Number 4 ∷ [])

-- the record from its slots, and back
abbrev pub from : List ℕ → Stss
from v = record { version = get_or v 0 0; flags = get_or v 1 0; count = get_or v 2 0 }

abbrev pub to : Stss → List ℕ
to m = slotted (m.version ∷ m.flags ∷ m.count ∷ [])

-- an entry: a sample number above the one before
abbrev pub cells : List Cell
cells = Rising 4 ∷ Nothing ∷ Nothing ∷ Nothing ∷ []

abbrev pub size : Stss → ℕ
size m = m.count * 4

-- how its entries are judged, from a position on
abbrev pub judge : Stss → List ℕ → ℕ → Result (Unit {0}) Refusal
judge m b at = entries_of m.count cells b at 0

abbrev pub stss_of : List ℕ → Result (Stss × ℕ) Refusal
stss_of part = judged_of from judge part (read_of kind fields part)

abbrev pub stss_in : Stss → List ℕ → List ℕ → Wrote
stss_in m entries out = write_judged kind fields (to m) (size m) (judge m entries 0) entries out

-- the i-th sample number
abbrev pub entry_of : List ℕ → ℕ → Result ℕ Refusal
entry_of entries i = field Err 4 entries (i * 4) Ok
