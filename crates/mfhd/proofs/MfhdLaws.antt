-- mfhd: what is written reads back the same, and a canonical box gives its own bytes. Assumes nothing.
use Rattle.std.specs.Prelude.{Ok}
use mathlib.Core.Path.{◌≡◌, refl}
use mathlib.Core.List.{List, ◌++◌}
use Prim.Native.Nat.{ℕ, ◌≤◌}
use native.Mathlib.Omega.{arith}
use lib.ListN.{length, take, drop}
use Rattle.numbers.specs.Field.{when}
use Rattle.put.specs.Put.{wrote}
use Rattle.layout.specs.Rule.{rule_of}
use Rattle.layout.specs.Canonical.{slots, firsts, Canonical}
use Rattle.rounds.proofs.Boxes.{plain_back, plain-own}
use Rattle.mfhd.specs.Mfhd.{kind, fields, from, to, mfhd_of, mfhd_in}
use Rattle.mfhd.specs.declared.Mfhd.{Mfhd}

pub mfhd-back : (m : Mfhd) (buf : List ℕ) (n : ℕ) (out : List ℕ) → mfhd_in m buf ≡ wrote (Ok n) out → mfhd_of (take n out) ≡ Ok m
unfolding slots firsts rule_of when
mfhd-back = plain_back from to kind fields (omega arith) (λ m. refl)

pub mfhd-own : (b : List ℕ) → Canonical kind fields 0 b → (m : Mfhd) → mfhd_of b ≡ Ok m → (buf : List ℕ) → length b ≤ length buf →
    mfhd_in m buf ≡ wrote (Ok (length b)) (b ++ drop (length b) buf)
unfolding slots firsts rule_of when
mfhd-own = plain-own from to kind fields (λ v. refl) (omega arith)
