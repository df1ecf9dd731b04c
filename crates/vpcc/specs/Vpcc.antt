-- How a VP8 or VP9 track is coded (VP Codec ISO Media File Format Binding, 'vpcC', version 1): profile, level, bit depth,
-- chroma subsampling and range in one byte, three codes of its colours, and the data that the codec begins with: a size in
-- bytes, and as many bytes. Assumes nothing.
use Rattle.std.specs.Prelude.{ℕ, ◌*◌, List, [], ◌∷◌, get_or, Result, Ok, Err}
use Rattle.put.specs.Put.{Wrote}
use Rattle.parts.specs.Parts.{part_of}
use Rattle.layout.specs.Read.{read_of}
use Rattle.layout.specs.Write.{padded, slotted}
use Rattle.layout.specs.Table.{tabled, write_table}
use Rattle.layout.specs.declared.Field.{Field}
use Rattle.layout.specs.declared.Field.TheVariants.{Number, Version, Flags}
use Rattle.vpcc.specs.declared.Vpcc.{Vpcc}
use Rattle.numbers.specs.declared.Refusal.{Refusal}

abbrev pub kind : ℕ
kind = 0x76706343

abbrev pub fields : List Field
fields = padded (Version 1 1 ∷ Flags ∷ Number 1 ∷ Number 1 ∷ Number 1 ∷ Number 1 ∷ Number 1 ∷ Number 1 ∷ Number 2 ∷ [])

-- the record from its slots, and back
abbrev pub from : List ℕ → Vpcc
from v = record { version = get_or v 0 0; flags = get_or v 1 0; profile = get_or v 2 0; level = get_or v 3 0; sampling = get_or v 4 0; colour_primaries = get_or v 5 0; transfer_characteristics = get_or v 6 0; matrix_coefficients = get_or v 7 0; codec_initialization_data_size = get_or v 8 0 }

abbrev pub to : Vpcc → List ℕ
to m = slotted (m.version ∷ m.flags ∷ m.profile ∷ m.level ∷ m.sampling ∷ m.colour_primaries ∷ m.transfer_characteristics ∷ m.matrix_coefficients ∷ m.codec_initialization_data_size ∷ [])

-- how many bytes of initialization data there are
abbrev pub cells : Vpcc → ℕ
cells m = m.codec_initialization_data_size

abbrev pub vpcc_of : List ℕ → Result (Vpcc × ℕ) Refusal
vpcc_of part = tabled from cells 1 part (read_of kind fields part)

abbrev pub vpcc_in : Vpcc → List ℕ → List ℕ → Wrote
vpcc_in m initialization out = write_table kind fields (to m) (cells m * 1) initialization out

-- the initialization data, of a box that is read
abbrev pub within : List ℕ → Result (Vpcc × ℕ) Refusal → List ℕ
within part (Ok (m, place)) = part_of place (cells m) part
within part (Err q) = []

abbrev pub initialization_of : List ℕ → List ℕ
initialization_of part = within part (vpcc_of part)
