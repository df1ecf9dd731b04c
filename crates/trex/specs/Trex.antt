-- The defaults of a track in fragments (ISO/IEC 14496-12, 8.8.3). A track number of 0 is 8 (A18). Assumes nothing.
use Rattle.std.specs.Prelude.{ℕ, List, [], ◌∷◌, get_or, Result}
use Rattle.put.specs.Put.{Wrote}
use Rattle.layout.specs.Read.{read_of, answer}
use Rattle.layout.specs.Write.{write_of, padded, slotted}
use Rattle.layout.specs.declared.Field.{Field}
use Rattle.layout.specs.declared.Field.TheVariants.{Number, Least, Version, Flags}
use Rattle.trex.specs.declared.Trex.{Trex}
use Rattle.numbers.specs.declared.Refusal.{Refusal}

abbrev pub kind : ℕ
kind = 0x74726578

abbrev pub fields : List Field
fields = padded (Version 0 0 ∷ Flags ∷ Least 4 1 ∷ Number 4 ∷ Number 4 ∷ Number 4 ∷ Number 4 ∷ [])

-- the record from its slots, and back
abbrev pub from : List ℕ → Trex
from v = record { version = get_or v 0 0; flags = get_or v 1 0; track_id = get_or v 2 0; default_sample_description_index = get_or v 3 0; default_sample_duration = get_or v 4 0; default_sample_size = get_or v 5 0; default_sample_flags = get_or v 6 0 }

abbrev pub to : Trex → List ℕ
to m = slotted (m.version ∷ m.flags ∷ m.track_id ∷ m.default_sample_description_index ∷ m.default_sample_duration ∷ m.default_sample_size ∷ m.default_sample_flags ∷ [])

abbrev pub trex_of : List ℕ → Result Trex Refusal
trex_of part = answer from (read_of kind fields part)

abbrev pub trex_in : Trex → List ℕ → Wrote
trex_in m out = write_of kind fields (to m) [] out
