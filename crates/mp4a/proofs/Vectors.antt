-- Worked examples of the definitions, computed. Assumes nothing.
use Rattle.std.specs.Prelude.{Ok, Err}
use mathlib.Core.Path.{◌≡◌, refl}
use mathlib.Core.List.{List, [], ◌++◌}
use Prim.Native.Nat.{ℕ, ◌*◌}
use lib.ListN.{replicate}
use Rattle.numbers.specs.Number.{be, bytes}
use Rattle.numbers.specs.Field.{field, when}
use Rattle.numbers.specs.declared.Refusal.TheVariants as refusal
use Rattle.put.specs.Put.{wrote}
use Rattle.layout.specs.Rule.{rule_of}
use Rattle.layout.specs.Read.{one, decode}
use Rattle.layout.specs.Write.{lay, encode}
use Rattle.children.specs.Children.{row_of, first_in}
use Rattle.mp4a.specs.Mp4a.{mp4a_of, children_of, esds_of, mp4a_in}
use Rattle.mp4a.specs.declared.Mp4a.{Mp4a}

abbrev stereo : Mp4a
stereo = record { data_reference_index = 1; channelcount = 2; samplesize = 16; samplerate = 48000 * 65536 }

abbrev entry : ℕ → List ℕ → List ℕ
entry size numbers = bytes 4 size ++ bytes 4 0x6d703461 ++ numbers

abbrev numbers : List ℕ
numbers = bytes 6 0 ++ bytes 2 1 ++ bytes 8 0 ++ bytes 2 2 ++ bytes 2 16 ++ bytes 4 0 ++ bytes 4 (48000 * 65536)

-- a box of 8 bytes follows the numbers, and two bytes the box
abbrev child : List ℕ
child = bytes 4 8 ++ bytes 4 0x65736473

mp4a-read : mp4a_of (entry 44 (numbers ++ child) ++ bytes 2 7) ≡ Ok stereo
unfolding be bytes field when rule_of one decode
mp4a-read = refl

mp4a-children : children_of (entry 44 (numbers ++ child) ++ bytes 2 7) ≡ child
unfolding be bytes field when rule_of one decode
mp4a-children = refl

-- a box of another type stands before the esds, and is passed
mp4a-esds : esds_of (entry 52 (numbers ++ (bytes 4 8 ++ bytes 4 0x66726565) ++ child)) ≡ child
unfolding be bytes field when rule_of one decode row_of first_in
mp4a-esds = refl

mp4a-no-esds : esds_of (entry 36 numbers) ≡ []
unfolding be bytes field when rule_of one decode row_of first_in
mp4a-no-esds = refl

-- what is reserved is read, whatever it is
mp4a-reserved : mp4a_of (entry 36 (bytes 6 5 ++ bytes 2 1 ++ bytes 8 5 ++ bytes 2 2 ++ bytes 2 16 ++ bytes 4 5 ++ bytes 4 (48000 * 65536))) ≡ Ok stereo
unfolding be bytes field when rule_of one decode
mp4a-reserved = refl

-- 36 bytes are a whole entry without boxes
mp4a-childless : children_of (entry 36 numbers) ≡ []
unfolding be bytes field when rule_of one decode
mp4a-childless = refl

-- the rate is cut: no record, and no boxes
mp4a-cut : mp4a_of (entry 35 numbers) ≡ Err (refusal.Cut 32)
unfolding be bytes field when rule_of one decode
mp4a-cut = refl

mp4a-cut-children : children_of (entry 35 numbers) ≡ []
unfolding be bytes field when rule_of one decode
mp4a-cut-children = refl

mp4a-other-type : mp4a_of (bytes 4 36 ++ bytes 4 0x6d703462 ++ numbers) ≡ Err (refusal.Value 4)
unfolding be bytes field when rule_of one decode
mp4a-other-type = refl

mp4a-passes : mp4a_of (entry 37 numbers) ≡ Err (refusal.Cut 0)
unfolding be bytes field when rule_of one decode
mp4a-passes = refl

mp4a-written : mp4a_in stereo child (replicate 45 9) ≡ wrote (Ok 44) (entry 44 (numbers ++ child) ++ replicate 1 9)
unfolding bytes when rule_of lay encode
mp4a-written = refl

mp4a-childless-written : mp4a_in stereo [] (replicate 36 9) ≡ wrote (Ok 36) (entry 36 numbers)
unfolding bytes when rule_of lay encode
mp4a-childless-written = refl

mp4a-too-small : mp4a_in stereo child (replicate 43 9) ≡ wrote (Err (refusal.TooSmall 44)) (replicate 43 9)
unfolding bytes when rule_of lay encode
mp4a-too-small = refl
