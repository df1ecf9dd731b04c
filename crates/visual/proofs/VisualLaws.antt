-- visual: what is written reads back the same, and a canonical box gives its own bytes. Assumes nothing.
use Rattle.std.specs.Prelude.{Ok}
use mathlib.Core.Path.{◌≡◌, refl}
use mathlib.Core.List.{List, ◌++◌}
use Prim.Native.Nat.{ℕ, ◌≤◌, ◌<◌}
use native.Mathlib.Omega.{arith}
use lib.ListN.{length, take, drop}
use Rattle.numbers.specs.Field.{when}
use Rattle.put.specs.Put.{wrote}
use Rattle.layout.specs.Rule.{rule_of}
use Rattle.layout.specs.Canonical.{slots, firsts, Canonical}
use Rattle.rounds.proofs.TailBoxes.{tail-back, tail-own}
use Rattle.visual.specs.Visual.{fields, from, to, visual_of, children_of, visual_in}
use Rattle.visual.specs.declared.Visual.{Visual}

pub visual-back : (kind : ℕ) → kind < 4294967296 → (m : Visual) (children buf : List ℕ) (n : ℕ) (out : List ℕ) → visual_in kind m children buf ≡ wrote (Ok n) out → (visual_of kind (take n out) ≡ Ok m) × (children_of kind (take n out) ≡ children)
unfolding slots firsts rule_of when
visual-back kind h = tail-back from to kind fields h (λ m. refl)

pub visual-own : (kind : ℕ) (b : List ℕ) (k : ℕ) → Canonical kind fields k b → (m : Visual) → visual_of kind b ≡ Ok m → (buf : List ℕ) → length b ≤ length buf →
    visual_in kind m (children_of kind b) buf ≡ wrote (Ok (length b)) (b ++ drop (length b) buf)
unfolding slots firsts rule_of when
visual-own kind = tail-own from to kind fields (λ v. refl) (omega arith)
