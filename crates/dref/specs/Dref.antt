-- Where the media data of a track may lie (ISO/IEC 14496-12, 8.7.2): how many references there are, and then the boxes
-- of these, to the box's end. Whether there are as many as the count says is told by the tree of boxes (A47).
-- Assumes nothing.
use Rattle.std.specs.Prelude.{ℕ, List, [], ◌∷◌, get_or, Result}
use Rattle.put.specs.Put.{Wrote}
use Rattle.layout.specs.Read.{read_of, answer, rest_of}
use Rattle.layout.specs.Write.{write_of, padded, slotted}
use Rattle.layout.specs.declared.Field.{Field}
use Rattle.layout.specs.declared.Field.TheVariants.{Number, Version, Flags}
use Rattle.dref.specs.declared.Dref.{Dref}
use Rattle.numbers.specs.declared.Refusal.{Refusal}

abbrev pub kind : ℕ
kind = 0x64726566

abbrev pub fields : List Field
fields = padded (Version 0 0 ∷ Flags ∷ Number 4 ∷ [])

-- the record from its slots, and back
abbrev pub from : List ℕ → Dref
from v = record { version = get_or v 0 0; flags = get_or v 1 0; count = get_or v 2 0 }

abbrev pub to : Dref → List ℕ
to m = slotted (m.version ∷ m.flags ∷ m.count ∷ [])

abbrev pub dref_of : List ℕ → Result Dref Refusal
dref_of part = answer from (read_of kind fields part)

abbrev pub entries_of : List ℕ → List ℕ
entries_of part = rest_of (read_of kind fields part) part

abbrev pub dref_in : Dref → List ℕ → List ℕ → Wrote
dref_in m entries out = write_of kind fields (to m) entries out
