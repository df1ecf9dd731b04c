-- Worked examples of the definitions, computed. Assumes nothing.
use Rattle.std.specs.Prelude.{Ok, Err}
use mathlib.Core.Path.{◌≡◌, refl}
use mathlib.Core.List.{List, [], ◌++◌}
use Prim.Native.Nat.{ℕ}
use lib.ListN.{replicate}
use Rattle.numbers.specs.Number.{be, bytes}
use Rattle.numbers.specs.Field.{field, when}
use Rattle.numbers.specs.declared.Refusal.TheVariants as refusal
use Rattle.put.specs.Put.{wrote}
use Rattle.layout.specs.Rule.{rule_of}
use Rattle.layout.specs.Read.{one, decode}
use Rattle.layout.specs.Write.{lay, encode, full}
use Rattle.visual.specs.Visual as visual-is
use Rattle.visual.specs.declared.Visual.{Visual}

-- 320 by 240, 72 dots an inch, a name of two letters behind its length
abbrev small : Visual
small = record {
  data_reference_index = 1;
  width = 320;
  height = 240;
  horizresolution = 0x0048_0000;
  vertresolution = 0x0048_0001;
  frame_count = 1;
  name0 = 0x0241_4200_0000_0000;
  name1 = 1;
  name2 = 2;
  name3 = 3;
  depth = 24;
}

-- its 78 bytes behind the header, with n in what is predefined or reserved, and e at the end
abbrev body : ℕ → ℕ → List ℕ
body n e =
    bytes 6 n ++ bytes 2 1 ++ bytes 8 n ++ bytes 8 n ++ bytes 4 0x0140_00f0 ++ bytes 8 0x0048_0000_0048_0001 ++ bytes 4 n ++ bytes 2 1
    ++ bytes 8 0x0241_4200_0000_0000 ++ bytes 8 1 ++ bytes 8 2 ++ bytes 8 3 ++ bytes 2 24 ++ bytes 2 e

-- two types of entries
abbrev k : ℕ
k = 0x61766331

abbrev l : ℕ
l = 0x76703039

-- a box without content
abbrev child : List ℕ
child = bytes 8 0x8_6176_6343

visual-read : visual-is.visual_of k (full k (body 0 0xffff) child ++ bytes 1 7) ≡ Ok small
unfolding be bytes field when rule_of one decode
visual-read = refl

-- the same of any kind
visual-read-l : visual-is.visual_of l (full l (body 0 0xffff) child) ≡ Ok small
unfolding be bytes field when rule_of one decode
visual-read-l = refl

-- the boxes end where the entry does
visual-children : visual-is.children_of k (full k (body 0 0xffff) child ++ bytes 1 7) ≡ child
unfolding be bytes field when rule_of one decode
visual-children = refl

-- there may be none: 86 bytes
visual-bare : visual-is.children_of k (full k (body 0 0xffff) []) ≡ []
unfolding be bytes field when rule_of one decode
visual-bare = refl

-- what is predefined or reserved is passed over
visual-reserved : visual-is.visual_of k (full k (body 9 9) []) ≡ Ok small
unfolding be bytes field when rule_of one decode
visual-reserved = refl

-- another kind than was asked for
visual-other : visual-is.visual_of l (full k (body 0 0xffff) child) ≡ Err (refusal.Value 4)
unfolding be bytes field when rule_of one decode
visual-other = refl

visual-other-children : visual-is.children_of l (full k (body 0 0xffff) child) ≡ []
unfolding be bytes field when rule_of one decode
visual-other-children = refl

-- a byte short: cut in the last field
visual-cut : visual-is.visual_of k (full k (replicate 77 0) []) ≡ Err (refusal.Cut 84)
unfolding be bytes field when rule_of one decode
visual-cut = refl

visual-written : visual-is.visual_in k small child (replicate 95 9) ≡ wrote (Ok 94) (full k (body 0 0xffff) child ++ replicate 1 9)
unfolding bytes when rule_of lay encode
visual-written = refl

visual-too-small : visual-is.visual_in k small child (replicate 93 9) ≡ wrote (Err (refusal.TooSmall 94)) (replicate 93 9)
unfolding bytes when rule_of lay encode
visual-too-small = refl
