-- The sample entry of MPEG-4 audio (AudioSampleEntry of version 0, ISO/IEC 14496-12, 12.2.3; MP4AudioSampleEntry,
-- 14496-14, 5.6): an index, three numbers of the sound, and boxes, which are the rest of the box. Assumes nothing.
use Rattle.std.specs.Prelude.{ℕ, List, [], ◌∷◌, get_or, Result}
use Rattle.put.specs.Put.{Wrote}
use Rattle.layout.specs.Read.{read_of, answer, rest_of}
use Rattle.layout.specs.Write.{write_of, padded, slotted}
use Rattle.layout.specs.declared.Field.{Field}
use Rattle.layout.specs.declared.Field.TheVariants.{Number, Reserved}
use Rattle.children.specs.Children.{child_of}
use Rattle.mp4a.specs.declared.Mp4a.{Mp4a}
use Rattle.numbers.specs.declared.Refusal.{Refusal}

abbrev pub kind : ℕ
kind = 0x6d703461

abbrev pub fields : List Field
fields = padded (Reserved 6 0 ∷ Number 2 ∷ Reserved 8 0 ∷ Number 2 ∷ Number 2 ∷ Reserved 2 0 ∷ Reserved 2 0 ∷ Number 4 ∷ [])

-- the record from its slots, and back
abbrev pub from : List ℕ → Mp4a
from v = record { data_reference_index = get_or v 0 0; channelcount = get_or v 1 0; samplesize = get_or v 2 0; samplerate = get_or v 3 0 }

abbrev pub to : Mp4a → List ℕ
to m = slotted (m.data_reference_index ∷ m.channelcount ∷ m.samplesize ∷ m.samplerate ∷ [])

abbrev pub mp4a_of : List ℕ → Result Mp4a Refusal
mp4a_of part = answer from (read_of kind fields part)

abbrev pub children_of : List ℕ → List ℕ
children_of part = rest_of (read_of kind fields part) part

-- the first esds among the boxes
abbrev pub esds_of : List ℕ → List ℕ
esds_of part = child_of 0x65736473 (children_of part)

abbrev pub mp4a_in : Mp4a → List ℕ → List ℕ → Wrote
mp4a_in m children out = write_of kind fields (to m) children out
