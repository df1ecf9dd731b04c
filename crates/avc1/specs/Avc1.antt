-- The sample entry of an AVC track (ISO/IEC 14496-15, 5.4.2.1): a visual sample entry whose boxes hold the configuration
-- of its decoder, avcC. Assumes nothing.
use Rattle.std.specs.Prelude.{ℕ, List, Result}
use Rattle.put.specs.Put.{Wrote}
use Rattle.visual.specs.Visual as visual
use Rattle.visual.specs.declared.Visual.{Visual}
use Rattle.children.specs.Children.{child_of}
use Rattle.numbers.specs.declared.Refusal.{Refusal}

abbrev pub kind : ℕ
kind = 0x61766331

abbrev pub avc1_of : List ℕ → Result Visual Refusal
avc1_of part = visual.visual_of kind part

abbrev pub children_of : List ℕ → List ℕ
children_of part = visual.children_of kind part

-- the first avcC among its boxes
abbrev pub avcc_of : List ℕ → List ℕ
avcc_of part = child_of 0x61766343 (children_of part)

abbrev pub avc1_in : Visual → List ℕ → List ℕ → Wrote
avc1_in m children out = visual.visual_in kind m children out
