-- stsd: what is written reads back the same, and a canonical box gives its own bytes. Assumes nothing.
use Rattle.std.specs.Prelude.{Ok}
use mathlib.Core.Path.{◌≡◌, refl}
use mathlib.Core.List.{List, ◌++◌}
use Prim.Native.Nat.{ℕ, ◌≤◌}
use native.Mathlib.Omega.{arith}
use lib.ListN.{length, take, drop}
use Rattle.numbers.specs.Field.{when}
use Rattle.put.specs.Put.{wrote}
use Rattle.layout.specs.Rule.{rule_of}
use Rattle.layout.specs.Canonical.{slots, firsts, Canonical}
use Rattle.rounds.proofs.TailBoxes.{tail-back, tail-own}
use Rattle.stsd.specs.Stsd.{kind, fields, from, to, stsd_of, entries_of, stsd_in}
use Rattle.stsd.specs.declared.Stsd.{Stsd}

pub stsd-back : (m : Stsd) (entries buf : List ℕ) (n : ℕ) (out : List ℕ) → stsd_in m entries buf ≡ wrote (Ok n) out → (stsd_of (take n out) ≡ Ok m) × (entries_of (take n out) ≡ entries)
unfolding slots firsts rule_of when
stsd-back = tail-back from to kind fields (omega arith) (λ m. refl)

pub stsd-own : (b : List ℕ) (k : ℕ) → Canonical kind fields k b → (m : Stsd) → stsd_of b ≡ Ok m → (buf : List ℕ) → length b ≤ length buf →
    stsd_in m (entries_of b) buf ≡ wrote (Ok (length b)) (b ++ drop (length b) buf)
unfolding slots firsts rule_of when
stsd-own = tail-own from to kind fields (λ v. refl) (omega arith)
