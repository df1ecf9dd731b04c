-- avc1: what is written reads back the same, a canonical entry gives its own bytes, and an avcC that is written is handed
-- back. Assumes nothing.
use Rattle.std.specs.Prelude.{Ok}
use mathlib.Core.Path.{◌≡◌, ap, ◌∙◌}
use mathlib.Core.List.{List, ◌++◌}
use mathlib.Core.Bool.{false}
use Prim.Native.Nat.{ℕ, ◌≤◌}
use native.Mathlib.Omega.{arith}
use lib.ListN.{length, take, drop}
use Rattle.put.specs.Put.{wrote}
use Rattle.boxes.specs.Header.{header_of}
use Rattle.boxes.specs.declared.header.Header.{Header}
use Rattle.layout.specs.Canonical.{Canonical}
use Rattle.visual.specs.Visual.{fields}
use Rattle.visual.specs.declared.Visual.{Visual}
use Rattle.visual.proofs.VisualLaws.{visual-back, visual-own}
use Rattle.children.specs.Children.{child_of}
use Rattle.children.proofs.Laws.{child-alone}
use Rattle.avc1.specs.Avc1.{kind, avc1_of, children_of, avcc_of, avc1_in}

pub avc1-back : (m : Visual) (children buf : List ℕ) (n : ℕ) (out : List ℕ) → avc1_in m children buf ≡ wrote (Ok n) out → (avc1_of (take n out) ≡ Ok m) × (children_of (take n out) ≡ children)
avc1-back = visual-back kind (omega arith)

pub avc1-own : (b : List ℕ) (k : ℕ) → Canonical kind fields k b → (m : Visual) → avc1_of b ≡ Ok m → (buf : List ℕ) → length b ≤ length buf →
    avc1_in m (children_of b) buf ≡ wrote (Ok (length b)) (b ++ drop (length b) buf)
avc1-own = visual-own kind

-- AN ENTRY THAT IS WRITTEN AROUND ONE avcC hands that very box back
pub avc1-avcc : (m : Visual) (b buf : List ℕ) (n : ℕ) (out : List ℕ) (h : Header) → header_of b 0 false ≡ Ok h → h.kind ≡ 0x61766343 → h.size ≡ length b → avc1_in m b buf ≡ wrote (Ok n) out →
    avcc_of (take n out) ≡ b
avc1-avcc m b buf n out h e k s w = ap (child_of 0x61766343) (avc1-back m b buf n out w).1 ∙ child-alone 0x61766343 b h e k s
