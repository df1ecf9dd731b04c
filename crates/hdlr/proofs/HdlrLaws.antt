-- hdlr: what is written reads back the same, and a canonical box gives its own bytes. Assumes nothing.
use Rattle.std.specs.Prelude.{Ok}
use mathlib.Core.Path.{◌≡◌, refl}
use mathlib.Core.List.{List, ◌++◌}
use Prim.Native.Nat.{ℕ, ◌≤◌}
use native.Mathlib.Omega.{arith}
use lib.ListN.{length, take, drop}
use Rattle.numbers.specs.Field.{when}
use Rattle.put.specs.Put.{wrote}
use Rattle.layout.specs.Rule.{rule_of}
use Rattle.layout.specs.Canonical.{slots, firsts, Canonical}
use Rattle.rounds.proofs.TailBoxes.{tail-back, tail-own}
use Rattle.hdlr.specs.Hdlr.{kind, fields, from, to, hdlr_of, name_of, hdlr_in}
use Rattle.hdlr.specs.declared.Hdlr.{Hdlr}

pub hdlr-back : (m : Hdlr) (name buf : List ℕ) (n : ℕ) (out : List ℕ) → hdlr_in m name buf ≡ wrote (Ok n) out → (hdlr_of (take n out) ≡ Ok m) × (name_of (take n out) ≡ name)
unfolding slots firsts rule_of when
hdlr-back = tail-back from to kind fields (omega arith) (λ m. refl)

pub hdlr-own : (b : List ℕ) (k : ℕ) → Canonical kind fields k b → (m : Hdlr) → hdlr_of b ≡ Ok m → (buf : List ℕ) → length b ≤ length buf →
    hdlr_in m (name_of b) buf ≡ wrote (Ok (length b)) (b ++ drop (length b) buf)
unfolding slots firsts rule_of when
hdlr-own = tail-own from to kind fields (λ v. refl) (omega arith)
