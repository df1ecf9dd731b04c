-- The decoding times (ISO/IEC 14496-12, 8.6.1.2): a count, and as many pairs of a count and a delta. A count of 0 in a
-- pair is allowed (A53). Assumes nothing.
use Rattle.std.specs.Prelude.{ℕ, ◌+◌, ◌*◌, List, [], ◌∷◌, get_or, Result, Ok, Err}
use Rattle.numbers.specs.Field.{field}
use Rattle.put.specs.Put.{Wrote}
use Rattle.layout.specs.Read.{read_of}
use Rattle.layout.specs.Write.{padded, slotted}
use Rattle.layout.specs.Table.{tabled, write_table}
use Rattle.layout.specs.declared.Field.{Field}
use Rattle.layout.specs.declared.Field.TheVariants.{Number, Version, Flags}
use Rattle.stts.specs.declared.Stts.{Stts}
use Rattle.stts.specs.declared.Run.{Run}
use Rattle.numbers.specs.declared.Refusal.{Refusal}

abbrev pub kind : ℕ
kind = 0x73747473

abbrev pub fields : List Field
fields = padded (Version 0 0 ∷ Flags ∷ Number 4 ∷ [])

-- the record from its slots, and back
abbrev pub from : List ℕ → Stts
from v = record { version = get_or v 0 0; flags = get_or v 1 0; count = get_or v 2 0 }

abbrev pub to : Stts → List ℕ
to m = slotted (m.version ∷ m.flags ∷ m.count ∷ [])

-- how many fields of 4 bytes its table has
abbrev pub cells : Stts → ℕ
cells m = m.count * 2

abbrev pub stts_of : List ℕ → Result (Stts × ℕ) Refusal
stts_of part = tabled from cells 4 part (read_of kind fields part)

abbrev pub stts_in : Stts → List ℕ → List ℕ → Wrote
stts_in m entries out = write_table kind fields (to m) (cells m * 4) entries out

-- the i-th pair
abbrev pub entry_of : List ℕ → ℕ → Result Run Refusal
entry_of entries i =
    field Err 4 entries (i * 8)
    (λ c. field Err 4 entries (i * 8 + 4) (λ d. Ok (record { sample_count = c; sample_delta = d })))
