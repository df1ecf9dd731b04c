-- A sample entry of a visual track, of any kind (ISO/IEC 14496-12, 12.1.3): which data reference its samples are in, the
-- size of the picture, its resolutions as raw 16.16, how many frames a sample has, the 32 bytes of the compressor's name as
-- four numbers, and the depth. Behind them its boxes, to the entry's end. What is predefined or reserved is passed over.
-- Assumes nothing.
use Rattle.std.specs.Prelude.{ℕ, List, [], ◌∷◌, get_or, Result}
use Rattle.put.specs.Put.{Wrote}
use Rattle.layout.specs.Read.{read_of, answer, rest_of}
use Rattle.layout.specs.Write.{write_of, padded, slotted}
use Rattle.layout.specs.declared.Field.{Field}
use Rattle.layout.specs.declared.Field.TheVariants.{Number, Reserved}
use Rattle.visual.specs.declared.Visual.{Visual}
use Rattle.numbers.specs.declared.Refusal.{Refusal}

abbrev pub fields : List Field
fields = padded (Reserved 6 0 ∷ Number 2 ∷ Reserved 2 0 ∷ Reserved 2 0 ∷ Reserved 4 0 ∷ Reserved 4 0 ∷ Reserved 4 0 ∷ Number 2 ∷ Number 2 ∷ Number 4 ∷ Number 4 ∷ Reserved 4 0 ∷ Number 2 ∷ Number 8 ∷ Number 8 ∷ Number 8 ∷ Number 8 ∷ Number 2 ∷ Reserved 2 0xffff ∷ [])

-- the record from its slots, and back
abbrev pub from : List ℕ → Visual
from v = record { data_reference_index = get_or v 0 0; width = get_or v 1 0; height = get_or v 2 0; horizresolution = get_or v 3 0; vertresolution = get_or v 4 0; frame_count = get_or v 5 0; name0 = get_or v 6 0; name1 = get_or v 7 0; name2 = get_or v 8 0; name3 = get_or v 9 0; depth = get_or v 10 0 }

abbrev pub to : Visual → List ℕ
to m = slotted (m.data_reference_index ∷ m.width ∷ m.height ∷ m.horizresolution ∷ m.vertresolution ∷ m.frame_count ∷ m.name0 ∷ m.name1 ∷ m.name2 ∷ m.name3 ∷ m.depth ∷ [])

abbrev pub visual_of : ℕ → List ℕ → Result Visual Refusal
visual_of kind part = answer from (read_of kind fields part)

abbrev pub children_of : ℕ → List ℕ → List ℕ
children_of kind part = rest_of (read_of kind fields part) part

abbrev pub visual_in : ℕ → Visual → List ℕ → List ℕ → Wrote
visual_in kind m children out = write_of kind fields (to m) children out
