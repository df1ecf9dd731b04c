-- The decode time of a track fragment (ISO/IEC 14496-12, 8.8.12). Assumes nothing.
use Rattle.std.specs.Prelude.{ℕ, List, [], ◌∷◌, get_or, Result}
use Rattle.put.specs.Put.{Wrote}
use Rattle.layout.specs.Read.{read_of, answer}
use Rattle.layout.specs.Write.{write_of, padded, slotted}
use Rattle.layout.specs.declared.Field.{Field}
use Rattle.layout.specs.declared.Field.TheVariants.{Wide, Version, Flags}
use Rattle.tfdt.specs.declared.Tfdt.{Tfdt}
use Rattle.numbers.specs.declared.Refusal.{Refusal}

abbrev pub kind : ℕ
kind = 0x74666474

abbrev pub fields : List Field
fields = padded (Version 0 1 ∷ Flags ∷ Wide 4 8 ∷ [])

-- the record from its slots, and back
abbrev pub from : List ℕ → Tfdt
from v = record { version = get_or v 0 0; flags = get_or v 1 0; base_media_decode_time = get_or v 2 0 }

abbrev pub to : Tfdt → List ℕ
to m = slotted (m.version ∷ m.flags ∷ m.base_media_decode_time ∷ [])

abbrev pub tfdt_of : List ℕ → Result Tfdt Refusal
tfdt_of part = answer from (read_of kind fields part)

abbrev pub tfdt_in : Tfdt → List ℕ → Wrote
tfdt_in m out = write_of kind fields (to m) [] out
