-- The track header (ISO/IEC 14496-12, 8.3.2). 92 bytes in version 0 and 104 in version 1; a track number of 0 is 8.
-- Assumes nothing.
use Rattle.std.specs.Prelude.{ℕ, List, [], ◌∷◌, get_or, Result}
use Rattle.put.specs.Put.{Wrote}
use Rattle.layout.specs.Read.{read_of, answer}
use Rattle.layout.specs.Write.{write_of, padded, slotted}
use Rattle.layout.specs.declared.Field.{Field}
use Rattle.layout.specs.declared.Field.TheVariants.{Number, Reserved, Wide, Least, Version, Flags}
use Rattle.tkhd.specs.declared.Tkhd.{Tkhd}
use Rattle.numbers.specs.declared.Refusal.{Refusal}

abbrev pub kind : ℕ
kind = 0x746b6864

abbrev pub fields : List Field
fields = padded (Version 0 1 ∷ Flags ∷ Wide 4 8 ∷ Wide 4 8 ∷ Least 4 1 ∷ Reserved 4 0 ∷ Wide 4 8 ∷ Reserved 8 0 ∷ Number 2 ∷ Number 2 ∷ Number 2 ∷ Reserved 2 0 ∷ Number 4 ∷ Number 4 ∷ Number 4 ∷ Number 4 ∷ Number 4 ∷ Number 4 ∷ Number 4 ∷ Number 4 ∷ Number 4 ∷ Number 4 ∷ Number 4 ∷ [])

-- the record from its slots, and back
abbrev pub from : List ℕ → Tkhd
from v = record { version = get_or v 0 0; flags = get_or v 1 0; creation_time = get_or v 2 0; modification_time = get_or v 3 0; track_id = get_or v 4 0; duration = get_or v 5 0; layer = get_or v 6 0; alternate_group = get_or v 7 0; volume = get_or v 8 0; matrix_a = get_or v 9 0; matrix_b = get_or v 10 0; matrix_u = get_or v 11 0; matrix_c = get_or v 12 0; matrix_d = get_or v 13 0; matrix_v = get_or v 14 0; matrix_x = get_or v 15 0; matrix_y = get_or v 16 0; matrix_w = get_or v 17 0; width = get_or v 18 0; height = get_or v 19 0 }

abbrev pub to : Tkhd → List ℕ
to m = slotted (m.version ∷ m.flags ∷ m.creation_time ∷ m.modification_time ∷ m.track_id ∷ m.duration ∷ m.layer ∷ m.alternate_group ∷ m.volume ∷ m.matrix_a ∷ m.matrix_b ∷ m.matrix_u ∷ m.matrix_c ∷ m.matrix_d ∷ m.matrix_v ∷ m.matrix_x ∷ m.matrix_y ∷ m.matrix_w ∷ m.width ∷ m.height ∷ [])

abbrev pub tkhd_of : List ℕ → Result Tkhd Refusal
tkhd_of part = answer from (read_of kind fields part)

abbrev pub tkhd_in : Tkhd → List ℕ → Wrote
tkhd_in m out = write_of kind fields (to m) [] out
