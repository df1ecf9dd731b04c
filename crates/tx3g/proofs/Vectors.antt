-- Worked examples of the definitions, computed. Assumes nothing.
use Rattle.std.specs.Prelude.{Ok, Err}
use mathlib.Core.Path.{◌≡◌, refl}
use mathlib.Core.List.{List, [], ◌++◌}
use Prim.Native.Nat.{ℕ}
use lib.ListN.{replicate}
use Rattle.numbers.specs.Number.{be, bytes}
use Rattle.numbers.specs.Field.{field, when}
use Rattle.numbers.specs.declared.Refusal.TheVariants as refusal
use Rattle.put.specs.Put.{wrote}
use Rattle.layout.specs.Rule.{rule_of}
use Rattle.layout.specs.Read.{one, decode}
use Rattle.layout.specs.Write.{lay, encode, full}
use Rattle.tx3g.specs.Tx3g as tx3g-is
use Rattle.tx3g.specs.declared.Tx3g.{Tx3g}

-- centred at the bottom (-1 is 0xff), a side of -2 (0xfffe), 16 points, white on black
abbrev text : Tx3g
text = record {
  data_reference_index = 1;
  display_flags = 0x2000_0000;
  horizontal_justification = 1;
  vertical_justification = 0xff;
  background_red = 2;
  background_green = 3;
  background_blue = 4;
  background_alpha = 255;
  top = 0xfffe;
  left = 5;
  bottom = 6;
  right = 7;
  start_char = 8;
  end_char = 9;
  font_id = 10;
  face_style_flags = 11;
  font_size = 16;
  text_red = 12;
  text_green = 13;
  text_blue = 14;
  text_alpha = 15;
}

-- its 38 bytes behind the header, with n in the reserved ones
abbrev body : ℕ → List ℕ
body n = bytes 6 n ++ bytes 2 1 ++ bytes 4 0x2000_0000 ++ bytes 2 0x1ff ++ bytes 4 0x020304ff ++ bytes 8 0xfffe_0005_0006_0007 ++ bytes 8 0x0008_0009_000a_0b10 ++ bytes 4 0x0c0d0e0f

-- a font table without a font
abbrev ftab : List ℕ
ftab = bytes 4 10 ++ bytes 4 0x66746162 ++ bytes 2 0

abbrev fonts : List ℕ
fonts = full 0x74783367 (body 0) ftab

tx3g-read : tx3g-is.tx3g_of (fonts ++ bytes 1 7) ≡ Ok text
unfolding be bytes field when rule_of one decode
tx3g-read = refl

-- the boxes end where tx3g does
tx3g-rest : tx3g-is.boxes_of (fonts ++ bytes 1 7) ≡ ftab
unfolding be bytes field when rule_of one decode
tx3g-rest = refl

-- there may be none
tx3g-no-rest : tx3g-is.boxes_of (full 0x74783367 (body 0) []) ≡ []
unfolding be bytes field when rule_of one decode
tx3g-no-rest = refl

-- what is reserved is passed over
tx3g-reserved : tx3g-is.tx3g_of (full 0x74783367 (body 0xffff_ffff_ffff) []) ≡ Ok text
unfolding be bytes field when rule_of one decode
tx3g-reserved = refl

-- a byte short: cut in the last field
tx3g-cut : tx3g-is.tx3g_of (full 0x74783367 (bytes 6 0 ++ bytes 8 0 ++ bytes 8 0 ++ bytes 8 0 ++ bytes 7 0) []) ≡ Err (refusal.Cut 45)
unfolding be bytes field when rule_of one decode
tx3g-cut = refl

tx3g-cut-rest : tx3g-is.boxes_of (full 0x74783367 (bytes 6 0 ++ bytes 8 0 ++ bytes 8 0 ++ bytes 8 0 ++ bytes 7 0) []) ≡ []
unfolding be bytes field when rule_of one decode
tx3g-cut-rest = refl

-- another type
tx3g-other : tx3g-is.tx3g_of (full 0x74783368 (body 0) []) ≡ Err (refusal.Value 4)
unfolding be bytes field when rule_of one decode
tx3g-other = refl

tx3g-written : tx3g-is.tx3g_in text ftab (replicate 57 9) ≡ wrote (Ok 56) (fonts ++ replicate 1 9)
unfolding bytes when rule_of lay encode
tx3g-written = refl

tx3g-too-small : tx3g-is.tx3g_in text ftab (replicate 55 9) ≡ wrote (Err (refusal.TooSmall 56)) (replicate 55 9)
unfolding bytes when rule_of lay encode
tx3g-too-small = refl
