-- The track fragment header (ISO/IEC 14496-12, 8.8.7). A field whose flag is not set is 0; a track number of 0 is 8.
-- Assumes nothing.
use Rattle.std.specs.Prelude.{ℕ, List, [], ◌∷◌, get_or, Result}
use Rattle.put.specs.Put.{Wrote}
use Rattle.layout.specs.Read.{read_of, answer}
use Rattle.layout.specs.Write.{write_of, padded, slotted}
use Rattle.layout.specs.declared.Field.{Field}
use Rattle.layout.specs.declared.Field.TheVariants.{Optional, Least, Version, Flags}
use Rattle.tfhd.specs.declared.Tfhd.{Tfhd}
use Rattle.numbers.specs.declared.Refusal.{Refusal}

abbrev pub kind : ℕ
kind = 0x74666864

abbrev pub fields : List Field
fields = padded (Version 0 0 ∷ Flags ∷ Least 4 1 ∷ Optional 8 1 ∷ Optional 4 2 ∷ Optional 4 8 ∷ Optional 4 16 ∷ Optional 4 32 ∷ [])

-- the record from its slots, and back
abbrev pub from : List ℕ → Tfhd
from v = record { version = get_or v 0 0; flags = get_or v 1 0; track_id = get_or v 2 0; base_data_offset = get_or v 3 0; sample_description_index = get_or v 4 0; default_sample_duration = get_or v 5 0; default_sample_size = get_or v 6 0; default_sample_flags = get_or v 7 0 }

abbrev pub to : Tfhd → List ℕ
to m = slotted (m.version ∷ m.flags ∷ m.track_id ∷ m.base_data_offset ∷ m.sample_description_index ∷ m.default_sample_duration ∷ m.default_sample_size ∷ m.default_sample_flags ∷ [])

abbrev pub tfhd_of : List ℕ → Result Tfhd Refusal
tfhd_of part = answer from (read_of kind fields part)

abbrev pub tfhd_in : Tfhd → List ℕ → Wrote
tfhd_in m out = write_of kind fields (to m) [] out
