-- How timed text is shown (3GPP TS 26.245, 5.16): the text's place and its first style, and then boxes, the font
-- table among them, to the box's end. The justifications and the four sides of the text's box are signed numbers there;
-- they are kept as their raw bits, in two's complement. Assumes nothing.
use Rattle.std.specs.Prelude.{ℕ, List, [], ◌∷◌, get_or, Result}
use Rattle.put.specs.Put.{Wrote}
use Rattle.layout.specs.Read.{read_of, answer, rest_of}
use Rattle.layout.specs.Write.{write_of, padded, slotted}
use Rattle.layout.specs.declared.Field.{Field}
use Rattle.layout.specs.declared.Field.TheVariants.{Number, Reserved}
use Rattle.tx3g.specs.declared.Tx3g.{Tx3g}
use Rattle.numbers.specs.declared.Refusal.{Refusal}

abbrev pub kind : ℕ
kind = 0x74783367

abbrev pub fields : List Field
fields =
    padded (Reserved 6 0 ∷ Number 2
    ∷ Number 4 ∷ Number 1 ∷ Number 1 ∷ Number 1 ∷ Number 1 ∷ Number 1 ∷ Number 1
    ∷ Number 2 ∷ Number 2 ∷ Number 2 ∷ Number 2
    ∷ Number 2 ∷ Number 2 ∷ Number 2 ∷ Number 1 ∷ Number 1 ∷ Number 1 ∷ Number 1 ∷ Number 1 ∷ Number 1 ∷ [])

-- the record from its slots, and back
abbrev pub from : List ℕ → Tx3g
from v = record { data_reference_index = get_or v 0 0; display_flags = get_or v 1 0; horizontal_justification = get_or v 2 0; vertical_justification = get_or v 3 0; background_red = get_or v 4 0; background_green = get_or v 5 0; background_blue = get_or v 6 0; background_alpha = get_or v 7 0; top = get_or v 8 0; left = get_or v 9 0; bottom = get_or v 10 0; right = get_or v 11 0; start_char = get_or v 12 0; end_char = get_or v 13 0; font_id = get_or v 14 0; face_style_flags = get_or v 15 0; font_size = get_or v 16 0; text_red = get_or v 17 0; text_green = get_or v 18 0; text_blue = get_or v 19 0; text_alpha = get_or v 20 0 }

abbrev pub to : Tx3g → List ℕ
to m = slotted (m.data_reference_index ∷ m.display_flags ∷ m.horizontal_justification ∷ m.vertical_justification ∷ m.background_red ∷ m.background_green ∷ m.background_blue ∷ m.background_alpha ∷ m.top ∷ m.left ∷ m.bottom ∷ m.right ∷ m.start_char ∷ m.end_char ∷ m.font_id ∷ m.face_style_flags ∷ m.font_size ∷ m.text_red ∷ m.text_green ∷ m.text_blue ∷ m.text_alpha ∷ [])

abbrev pub tx3g_of : List ℕ → Result Tx3g Refusal
tx3g_of part = answer from (read_of kind fields part)

abbrev pub boxes_of : List ℕ → List ℕ
boxes_of part = rest_of (read_of kind fields part) part

abbrev pub tx3g_in : Tx3g → List ℕ → List ℕ → Wrote
tx3g_in m rest out = write_of kind fields (to m) rest out
