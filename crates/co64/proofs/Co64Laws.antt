-- co64: what is written reads back the same, and a canonical box gives its own bytes. Assumes nothing.
use Rattle.std.specs.Prelude.{Ok}
use mathlib.Core.Path.{◌≡◌, refl}
use mathlib.Core.List.{List, ◌++◌}
use Prim.Native.Nat.{ℕ, ◌≤◌, ◌*◌}
use native.Mathlib.Omega.{arith}
use lib.ListN.{length, take, drop}
use Rattle.numbers.specs.Field.{when}
use Rattle.put.specs.Put.{wrote}
use Rattle.layout.specs.Rule.{rule_of}
use Rattle.layout.specs.Canonical.{slots, firsts, Canonical}
use Rattle.rounds.proofs.TableBoxes.{table-back, table-own}
use Rattle.co64.specs.Co64.{kind, fields, from, to, cells, co64_of, co64_in}
use Rattle.co64.specs.declared.Co64.{Co64}

pub co64-back : (m : Co64) (entries buf : List ℕ) (n : ℕ) (out : List ℕ) → co64_in m entries buf ≡ wrote (Ok n) out →
    (place : ℕ) × (co64_of (take n out) ≡ Ok (m, place)) × (drop place (take n out) ≡ entries)
unfolding slots firsts rule_of when
co64-back = table-back from to cells 8 kind fields (omega arith) (λ m. refl)

pub co64-own : (b : List ℕ) (m : Co64) (place : ℕ) → Canonical kind fields (cells m * 8) b → co64_of b ≡ Ok (m, place) → (buf : List ℕ) → length b ≤ length buf →
    co64_in m (drop place b) buf ≡ wrote (Ok (length b)) (b ++ drop (length b) buf)
unfolding slots firsts rule_of when
co64-own = table-own from to cells 8 kind fields (λ v. refl) (omega arith)
