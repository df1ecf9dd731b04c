-- The movie fragment header (ISO/IEC 14496-12, 8.8.5). Assumes nothing.
use Rattle.std.specs.Prelude.{ℕ, List, [], ◌∷◌, get_or, Result}
use Rattle.put.specs.Put.{Wrote}
use Rattle.layout.specs.Read.{read_of, answer}
use Rattle.layout.specs.Write.{write_of, padded, slotted}
use Rattle.layout.specs.declared.Field.{Field}
use Rattle.layout.specs.declared.Field.TheVariants.{Number, Version, Flags}
use Rattle.mfhd.specs.declared.Mfhd.{Mfhd}
use Rattle.numbers.specs.declared.Refusal.{Refusal}

abbrev pub kind : ℕ
kind = 0x6d666864

abbrev pub fields : List Field
fields = padded (Version 0 0 ∷ Flags ∷ Number 4 ∷ [])

-- the record from its slots, and back
abbrev pub from : List ℕ → Mfhd
from v = record { version = get_or v 0 0; flags = get_or v 1 0; sequence_number = get_or v 2 0 }

abbrev pub to : Mfhd → List ℕ
to m = slotted (m.version ∷ m.flags ∷ m.sequence_number ∷ [])

abbrev pub mfhd_of : List ℕ → Result Mfhd Refusal
mfhd_of part = answer from (read_of kind fields part)

abbrev pub mfhd_in : Mfhd → List ℕ → Wrote
mfhd_in m out = write_of kind fields (to m) [] out
