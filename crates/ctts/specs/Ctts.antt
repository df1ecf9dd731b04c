-- The composition offsets (ISO/IEC 14496-12, 8.6.1.3): a count, and as many pairs of a count and an offset. The offset
-- is signed in versions 0 and 1 alike, as the Rust has it and against the standard (document 01). Assumes nothing.
use Rattle.std.specs.Prelude.{ℕ, ◌+◌, ◌*◌, List, [], ◌∷◌, get_or, Result, Ok, Err}
use Rattle.numbers.specs.Field.{field}
use Rattle.put.specs.Put.{Wrote}
use Rattle.layout.specs.Read.{read_of}
use Rattle.layout.specs.Write.{padded, slotted}
use Rattle.layout.specs.Table.{tabled, write_table}
use Rattle.layout.specs.declared.Field.{Field}
use Rattle.layout.specs.declared.Field.TheVariants.{Number, Version, Flags}
use Rattle.ctts.specs.declared.Ctts.{Ctts}
use Rattle.signed.specs.Signed.{signed}
use Rattle.ctts.specs.declared.Run.{Run}
use Rattle.numbers.specs.declared.Refusal.{Refusal}

abbrev pub kind : ℕ
kind = 0x63747473

abbrev pub fields : List Field
fields = padded (Version 0 1 ∷ Flags ∷ Number 4 ∷ [])

-- the record from its slots, and back
abbrev pub from : List ℕ → Ctts
from v = record { version = get_or v 0 0; flags = get_or v 1 0; count = get_or v 2 0 }

abbrev pub to : Ctts → List ℕ
to m = slotted (m.version ∷ m.flags ∷ m.count ∷ [])

-- how many fields of 4 bytes its table has
abbrev pub cells : Ctts → ℕ
cells m = m.count * 2

abbrev pub ctts_of : List ℕ → Result (Ctts × ℕ) Refusal
ctts_of part = tabled from cells 4 part (read_of kind fields part)

abbrev pub ctts_in : Ctts → List ℕ → List ℕ → Wrote
ctts_in m entries out = write_table kind fields (to m) (cells m * 4) entries out

-- the i-th pair
abbrev pub entry_of : List ℕ → ℕ → Result Run Refusal
entry_of entries i =
    field Err 4 entries (i * 8)
    (λ c. field Err 4 entries (i * 8 + 4) (λ o. Ok (record { sample_count = c; sample_offset = signed 4 o })))
