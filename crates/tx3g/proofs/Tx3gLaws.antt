-- tx3g: what is written reads back the same, and a canonical box gives its own bytes. Assumes nothing.
use Rattle.std.specs.Prelude.{Ok}
use mathlib.Core.Path.{◌≡◌, refl}
use mathlib.Core.List.{List, ◌++◌}
use Prim.Native.Nat.{ℕ, ◌≤◌}
use native.Mathlib.Omega.{arith}
use lib.ListN.{length, take, drop}
use Rattle.numbers.specs.Field.{when}
use Rattle.put.specs.Put.{wrote}
use Rattle.layout.specs.Rule.{rule_of}
use Rattle.layout.specs.Canonical.{slots, firsts, Canonical}
use Rattle.rounds.proofs.TailBoxes.{tail-back, tail-own}
use Rattle.tx3g.specs.Tx3g.{kind, fields, from, to, tx3g_of, boxes_of, tx3g_in}
use Rattle.tx3g.specs.declared.Tx3g.{Tx3g}

pub tx3g-back : (m : Tx3g) (rest buf : List ℕ) (n : ℕ) (out : List ℕ) → tx3g_in m rest buf ≡ wrote (Ok n) out → (tx3g_of (take n out) ≡ Ok m) × (boxes_of (take n out) ≡ rest)
unfolding slots firsts rule_of when
tx3g-back = tail-back from to kind fields (omega arith) (λ m. refl)

pub tx3g-own : (b : List ℕ) (k : ℕ) → Canonical kind fields k b → (m : Tx3g) → tx3g_of b ≡ Ok m → (buf : List ℕ) → length b ≤ length buf →
    tx3g_in m (boxes_of b) buf ≡ wrote (Ok (length b)) (b ++ drop (length b) buf)
unfolding slots firsts rule_of when
tx3g-own = tail-own from to kind fields (λ v. refl) (omega arith)
