-- The chunk offsets (ISO/IEC 14496-12, 8.7.5) in 32 bits: a count, and as many offsets. Assumes nothing.
use Rattle.std.specs.Prelude.{ℕ, ◌+◌, ◌*◌, List, [], ◌∷◌, get_or, Result, Ok, Err}
use Rattle.numbers.specs.Field.{field}
use Rattle.put.specs.Put.{Wrote}
use Rattle.layout.specs.Read.{read_of}
use Rattle.layout.specs.Write.{padded, slotted}
use Rattle.layout.specs.Table.{tabled, write_table}
use Rattle.layout.specs.declared.Field.{Field}
use Rattle.layout.specs.declared.Field.TheVariants.{Number, Version, Flags}
use Rattle.stco.specs.declared.Stco.{Stco}
use Rattle.numbers.specs.declared.Refusal.{Refusal}

abbrev pub kind : ℕ
kind = 0x7374636f

abbrev pub fields : List Field
fields = padded (Version 0 0 ∷ Flags ∷ Number 4 ∷ [])

-- the record from its slots, and back
abbrev pub from : List ℕ → Stco
from v = record { version = get_or v 0 0; flags = get_or v 1 0; count = get_or v 2 0 }

abbrev pub to : Stco → List ℕ
to m = slotted (m.version ∷ m.flags ∷ m.count ∷ [])

-- how many fields of 4 bytes its table has
abbrev pub cells : Stco → ℕ
cells m = m.count

abbrev pub stco_of : List ℕ → Result (Stco × ℕ) Refusal
stco_of part = tabled from cells 4 part (read_of kind fields part)

abbrev pub stco_in : Stco → List ℕ → List ℕ → Wrote
stco_in m entries out = write_table kind fields (to m) (cells m * 4) entries out

-- the i-th offset
abbrev pub entry_of : List ℕ → ℕ → Result ℕ Refusal
entry_of entries i = field Err 4 entries (i * 4) Ok
