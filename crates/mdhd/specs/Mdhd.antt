-- The media header (ISO/IEC 14496-12, 8.4.2). Times and duration are wider in version 1; a timescale of 0 is 8.
-- Assumes nothing.
use Rattle.std.specs.Prelude.{ℕ, List, [], ◌∷◌, get_or, Result}
use Rattle.put.specs.Put.{Wrote}
use Rattle.layout.specs.Read.{read_of, answer}
use Rattle.layout.specs.Write.{write_of, padded, slotted}
use Rattle.layout.specs.declared.Field.{Field}
use Rattle.layout.specs.declared.Field.TheVariants.{Number, Reserved, Wide, Least, Version, Flags}
use Rattle.mdhd.specs.declared.Mdhd.{Mdhd}
use Rattle.numbers.specs.declared.Refusal.{Refusal}

abbrev pub kind : ℕ
kind = 0x6d646864

abbrev pub fields : List Field
fields = padded (Version 0 1 ∷ Flags ∷ Wide 4 8 ∷ Wide 4 8 ∷ Least 4 1 ∷ Wide 4 8 ∷ Number 2 ∷ Reserved 2 0 ∷ [])

-- the record from its slots, and back
abbrev pub from : List ℕ → Mdhd
from v = record { version = get_or v 0 0; flags = get_or v 1 0; creation_time = get_or v 2 0; modification_time = get_or v 3 0; timescale = get_or v 4 0; duration = get_or v 5 0; language = get_or v 6 0 }

abbrev pub to : Mdhd → List ℕ
to m = slotted (m.version ∷ m.flags ∷ m.creation_time ∷ m.modification_time ∷ m.timescale ∷ m.duration ∷ m.language ∷ [])

abbrev pub mdhd_of : List ℕ → Result Mdhd Refusal
mdhd_of part = answer from (read_of kind fields part)

abbrev pub mdhd_in : Mdhd → List ℕ → Wrote
mdhd_in m out = write_of kind fields (to m) [] out
