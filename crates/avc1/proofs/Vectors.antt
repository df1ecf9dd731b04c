-- Worked examples of the definitions, computed. Assumes nothing.
use Rattle.std.specs.Prelude.{Ok, Err}
use mathlib.Core.Path.{◌≡◌, refl}
use mathlib.Core.List.{List, [], ◌∷◌, ◌++◌}
use Prim.Native.Nat.{ℕ}
use lib.ListN.{replicate}
use Rattle.numbers.specs.Number.{be, bytes}
use Rattle.numbers.specs.Field.{field, when}
use Rattle.numbers.specs.declared.Refusal.TheVariants as refusal
use Rattle.put.specs.Put.{wrote}
use Rattle.layout.specs.Rule.{rule_of}
use Rattle.layout.specs.Read.{one, decode}
use Rattle.layout.specs.Write.{lay, encode, full}
use Rattle.visual.specs.declared.Visual.{Visual}
use Rattle.children.specs.Children.{row_of, first_in}
use Rattle.children.proofs.Example.{of}
use Rattle.avc1.specs.Avc1 as avc1-is

abbrev small : Visual
small = record {
  data_reference_index = 1;
  width = 320;
  height = 240;
  horizresolution = 0x0048_0000;
  vertresolution = 0x0048_0000;
  frame_count = 1;
  name0 = 0;
  name1 = 0;
  name2 = 0;
  name3 = 0;
  depth = 24;
}

-- its 78 bytes behind the header
abbrev body : List ℕ
body = bytes 8 1 ++ bytes 8 0 ++ bytes 8 0 ++ bytes 4 0x0140_00f0 ++ bytes 8 0x0048_0000_0048_0000 ++ bytes 4 0 ++ bytes 2 1 ++ replicate 32 0 ++ bytes 4 0x0018_ffff

-- an avcC that is not looked into, and another box
abbrev config : List ℕ
config = of 0x61766343 (5 ∷ [])

abbrev other : List ℕ
other = of 0x70617370 (1 ∷ 2 ∷ [])

avc1-read : avc1-is.avc1_of (full 0x61766331 body config) ≡ Ok small
unfolding be bytes field when rule_of one decode
avc1-read = refl

-- an entry of another kind
avc1-other : avc1-is.avc1_of (full 0x61766333 body config) ≡ Err (refusal.Value 4)
unfolding be bytes field when rule_of one decode
avc1-other = refl

avc1-children : avc1-is.children_of (full 0x61766331 body (other ++ config) ++ bytes 1 7) ≡ other ++ config
unfolding be bytes field when rule_of one decode
avc1-children = refl

-- it need not be the first of its boxes
avc1-avcc : avc1-is.avcc_of (full 0x61766331 body (other ++ config) ++ bytes 1 7) ≡ config
unfolding be bytes field when rule_of one decode row_of first_in
avc1-avcc = refl

-- there may be none
avc1-no-avcc : avc1-is.avcc_of (full 0x61766331 body other) ≡ []
unfolding be bytes field when rule_of one decode row_of first_in
avc1-no-avcc = refl

avc1-cut : avc1-is.avc1_of (full 0x61766331 (replicate 77 0) []) ≡ Err (refusal.Cut 84)
unfolding be bytes field when rule_of one decode
avc1-cut = refl

avc1-written : avc1-is.avc1_in small config (replicate 96 9) ≡ wrote (Ok 95) (full 0x61766331 body config ++ replicate 1 9)
unfolding bytes when rule_of lay encode
avc1-written = refl

avc1-too-small : avc1-is.avc1_in small config (replicate 94 9) ≡ wrote (Err (refusal.TooSmall 95)) (replicate 94 9)
unfolding bytes when rule_of lay encode
avc1-too-small = refl
