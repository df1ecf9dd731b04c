-- Worked examples of the definitions, computed. Assumes nothing.
use Rattle.std.specs.Prelude.{Ok, Err}
use mathlib.Core.Path.{◌≡◌, refl}
use mathlib.Core.List.{List, [], ◌∷◌, ◌++◌}
use Prim.Native.Nat.{ℕ}
use lib.ListN.{replicate}
use Rattle.numbers.specs.Number.{be, bytes}
use Rattle.numbers.specs.Field.{field, when}
use Rattle.numbers.specs.declared.Refusal.TheVariants as refusal
use Rattle.put.specs.Put.{wrote}
use Rattle.layout.specs.Rule.{rule_of}
use Rattle.layout.specs.Read.{one, decode}
use Rattle.layout.specs.Write.{lay, encode, full}
use Rattle.visual.specs.declared.Visual.{Visual}
use Rattle.children.specs.Children.{row_of, first_in}
use Rattle.children.proofs.Example.{of}
use Rattle.vp09.specs.Vp09 as vp09-is

abbrev small : Visual
small = record {
  data_reference_index = 1;
  width = 320;
  height = 240;
  horizresolution = 0x0048_0000;
  vertresolution = 0x0048_0000;
  frame_count = 1;
  name0 = 0;
  name1 = 0;
  name2 = 0;
  name3 = 0;
  depth = 24;
}

-- its 78 bytes behind the header
abbrev body : List ℕ
body = bytes 8 1 ++ bytes 8 0 ++ bytes 8 0 ++ bytes 4 0x0140_00f0 ++ bytes 8 0x0048_0000_0048_0000 ++ bytes 4 0 ++ bytes 2 1 ++ replicate 32 0 ++ bytes 4 0x0018_ffff

-- an vpcC that is not looked into, and another box
abbrev config : List ℕ
config = of 0x76706343 (5 ∷ [])

abbrev other : List ℕ
other = of 0x70617370 (1 ∷ 2 ∷ [])

vp09-read : vp09-is.vp09_of (full 0x76703039 body config) ≡ Ok small
unfolding be bytes field when rule_of one decode
vp09-read = refl

-- an entry of another kind
vp09-other : vp09-is.vp09_of (full 0x76703038 body config) ≡ Err (refusal.Value 4)
unfolding be bytes field when rule_of one decode
vp09-other = refl

vp09-children : vp09-is.children_of (full 0x76703039 body (other ++ config) ++ bytes 1 7) ≡ other ++ config
unfolding be bytes field when rule_of one decode
vp09-children = refl

-- it need not be the first of its boxes
vp09-vpcc : vp09-is.vpcc_of (full 0x76703039 body (other ++ config) ++ bytes 1 7) ≡ config
unfolding be bytes field when rule_of one decode row_of first_in
vp09-vpcc = refl

-- there may be none
vp09-no-vpcc : vp09-is.vpcc_of (full 0x76703039 body other) ≡ []
unfolding be bytes field when rule_of one decode row_of first_in
vp09-no-vpcc = refl

vp09-cut : vp09-is.vp09_of (full 0x76703039 (replicate 77 0) []) ≡ Err (refusal.Cut 84)
unfolding be bytes field when rule_of one decode
vp09-cut = refl

vp09-written : vp09-is.vp09_in small config (replicate 96 9) ≡ wrote (Ok 95) (full 0x76703039 body config ++ replicate 1 9)
unfolding bytes when rule_of lay encode
vp09-written = refl

vp09-too-small : vp09-is.vp09_in small config (replicate 94 9) ≡ wrote (Err (refusal.TooSmall 95)) (replicate 94 9)
unfolding bytes when rule_of lay encode
vp09-too-small = refl
