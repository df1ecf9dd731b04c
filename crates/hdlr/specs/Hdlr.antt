-- The handler of a track (ISO/IEC 14496-12, 8.4.3): four letters of any kind (A26), and a name, which is the rest of
-- the box. Assumes nothing.
use Rattle.std.specs.Prelude.{ℕ, List, [], ◌∷◌, get_or, Result}
use Rattle.put.specs.Put.{Wrote}
use Rattle.layout.specs.Read.{read_of, answer, rest_of}
use Rattle.layout.specs.Write.{write_of, padded, slotted}
use Rattle.layout.specs.declared.Field.{Field}
use Rattle.layout.specs.declared.Field.TheVariants.{Number, Reserved, Version, Flags}
use Rattle.hdlr.specs.declared.Hdlr.{Hdlr}
use Rattle.numbers.specs.declared.Refusal.{Refusal}

abbrev pub kind : ℕ
kind = 0x68646c72

abbrev pub fields : List Field
fields = padded (Version 0 0 ∷ Flags ∷ Reserved 4 0 ∷ Number 4 ∷ Reserved 4 0 ∷ Reserved 4 0 ∷ Reserved 4 0 ∷ [])

-- the record from its slots, and back
abbrev pub from : List ℕ → Hdlr
from v = record { version = get_or v 0 0; flags = get_or v 1 0; handler_type = get_or v 2 0 }

abbrev pub to : Hdlr → List ℕ
to m = slotted (m.version ∷ m.flags ∷ m.handler_type ∷ [])

abbrev pub hdlr_of : List ℕ → Result Hdlr Refusal
hdlr_of part = answer from (read_of kind fields part)

abbrev pub name_of : List ℕ → List ℕ
name_of part = rest_of (read_of kind fields part) part

abbrev pub hdlr_in : Hdlr → List ℕ → List ℕ → Wrote
hdlr_in m name out = write_of kind fields (to m) name out
