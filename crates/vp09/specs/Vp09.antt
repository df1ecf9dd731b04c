-- The sample entry of a VP9 track (VP Codec ISO Media File Format Binding): a visual sample entry whose boxes hold the
-- configuration of its codec, vpcC. Assumes nothing.
use Rattle.std.specs.Prelude.{ℕ, List, Result}
use Rattle.put.specs.Put.{Wrote}
use Rattle.visual.specs.Visual as visual
use Rattle.visual.specs.declared.Visual.{Visual}
use Rattle.children.specs.Children.{child_of}
use Rattle.numbers.specs.declared.Refusal.{Refusal}

abbrev pub kind : ℕ
kind = 0x76703039

abbrev pub vp09_of : List ℕ → Result Visual Refusal
vp09_of part = visual.visual_of kind part

abbrev pub children_of : List ℕ → List ℕ
children_of part = visual.children_of kind part

-- the first vpcC among its boxes
abbrev pub vpcc_of : List ℕ → List ℕ
vpcc_of part = child_of 0x76706343 (children_of part)

abbrev pub vp09_in : Visual → List ℕ → List ℕ → Wrote
vp09_in m children out = visual.visual_in kind m children out
