-- The chunk offsets (ISO/IEC 14496-12, 8.7.5) in 64 bits: a count, and as many offsets. Assumes nothing.
use Rattle.std.specs.Prelude.{ℕ, ◌+◌, ◌*◌, List, [], ◌∷◌, get_or, Result, Ok, Err}
use Rattle.numbers.specs.Field.{field}
use Rattle.put.specs.Put.{Wrote}
use Rattle.layout.specs.Read.{read_of}
use Rattle.layout.specs.Write.{padded, slotted}
use Rattle.layout.specs.Table.{tabled, write_table}
use Rattle.layout.specs.declared.Field.{Field}
use Rattle.layout.specs.declared.Field.TheVariants.{Number, Version, Flags}
use Rattle.co64.specs.declared.Co64.{Co64}
use Rattle.numbers.specs.declared.Refusal.{Refusal}

abbrev pub kind : ℕ
kind = 0x636f3634

abbrev pub fields : List Field
fields = padded (Version 0 0 ∷ Flags ∷ Number 4 ∷ [])

-- the record from its slots, and back
abbrev pub from : List ℕ → Co64
from v = record { version = get_or v 0 0; flags = get_or v 1 0; count = get_or v 2 0 }

abbrev pub to : Co64 → List ℕ
to m = slotted (m.version ∷ m.flags ∷ m.count ∷ [])

-- how many fields of 8 bytes its table has
abbrev pub cells : Co64 → ℕ
cells m = m.count

abbrev pub co64_of : List ℕ → Result (Co64 × ℕ) Refusal
co64_of part = tabled from cells 8 part (read_of kind fields part)

abbrev pub co64_in : Co64 → List ℕ → List ℕ → Wrote
co64_in m entries out = write_table kind fields (to m) (cells m * 8) entries out

-- the i-th offset
abbrev pub entry_of : List ℕ → ℕ → Result ℕ Refusal
entry_of entries i = field Err 8 entries (i * 8) Ok
