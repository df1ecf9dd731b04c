-- mp4a: what is written reads back the same, and a canonical box gives its own bytes. Assumes nothing.
use Rattle.std.specs.Prelude.{Ok}
use mathlib.Core.Path.{◌≡◌, refl}
use mathlib.Core.List.{List, ◌++◌}
use Prim.Native.Nat.{ℕ, ◌≤◌}
use native.Mathlib.Omega.{arith}
use lib.ListN.{length, take, drop}
use Rattle.numbers.specs.Field.{when}
use Rattle.put.specs.Put.{wrote}
use Rattle.layout.specs.Rule.{rule_of}
use Rattle.layout.specs.Canonical.{slots, firsts, Canonical}
use Rattle.rounds.proofs.TailBoxes.{tail-back, tail-own}
use Rattle.mp4a.specs.Mp4a.{kind, fields, from, to, mp4a_of, children_of, mp4a_in}
use Rattle.mp4a.specs.declared.Mp4a.{Mp4a}

pub mp4a-back : (m : Mp4a) (children buf : List ℕ) (n : ℕ) (out : List ℕ) → mp4a_in m children buf ≡ wrote (Ok n) out →
    (mp4a_of (take n out) ≡ Ok m) × (children_of (take n out) ≡ children)
unfolding slots firsts rule_of when
mp4a-back = tail-back from to kind fields (omega arith) (λ m. refl)

pub mp4a-own : (b : List ℕ) (k : ℕ) → Canonical kind fields k b → (m : Mp4a) → mp4a_of b ≡ Ok m → (buf : List ℕ) → length b ≤ length buf →
    mp4a_in m (children_of b) buf ≡ wrote (Ok (length b)) (b ++ drop (length b) buf)
unfolding slots firsts rule_of when
mp4a-own = tail-own from to kind fields (λ v. refl) (omega arith)
