-- vp09: what is written reads back the same, a canonical entry gives its own bytes, and an vpcC that is written is handed
-- back. Assumes nothing.
use Rattle.std.specs.Prelude.{Ok}
use mathlib.Core.Path.{◌≡◌, ap, ◌∙◌}
use mathlib.Core.List.{List, ◌++◌}
use mathlib.Core.Bool.{false}
use Prim.Native.Nat.{ℕ, ◌≤◌}
use native.Mathlib.Omega.{arith}
use lib.ListN.{length, take, drop}
use Rattle.put.specs.Put.{wrote}
use Rattle.boxes.specs.Header.{header_of}
use Rattle.boxes.specs.declared.header.Header.{Header}
use Rattle.layout.specs.Canonical.{Canonical}
use Rattle.visual.specs.Visual.{fields}
use Rattle.visual.specs.declared.Visual.{Visual}
use Rattle.visual.proofs.VisualLaws.{visual-back, visual-own}
use Rattle.children.specs.Children.{child_of}
use Rattle.children.proofs.Laws.{child-alone}
use Rattle.vp09.specs.Vp09.{kind, vp09_of, children_of, vpcc_of, vp09_in}

pub vp09-back : (m : Visual) (children buf : List ℕ) (n : ℕ) (out : List ℕ) → vp09_in m children buf ≡ wrote (Ok n) out → (vp09_of (take n out) ≡ Ok m) × (children_of (take n out) ≡ children)
vp09-back = visual-back kind (omega arith)

pub vp09-own : (b : List ℕ) (k : ℕ) → Canonical kind fields k b → (m : Visual) → vp09_of b ≡ Ok m → (buf : List ℕ) → length b ≤ length buf →
    vp09_in m (children_of b) buf ≡ wrote (Ok (length b)) (b ++ drop (length b) buf)
vp09-own = visual-own kind

-- AN ENTRY THAT IS WRITTEN AROUND ONE vpcC hands that very box back
pub vp09-vpcc : (m : Visual) (b buf : List ℕ) (n : ℕ) (out : List ℕ) (h : Header) → header_of b 0 false ≡ Ok h → h.kind ≡ 0x76706343 → h.size ≡ length b → vp09_in m b buf ≡ wrote (Ok n) out →
    vpcc_of (take n out) ≡ b
vp09-vpcc m b buf n out h e k s w = ap (child_of 0x76706343) (vp09-back m b buf n out w).1 ∙ child-alone 0x76706343 b h e k s
