-- trun: what is written reads back the same, and a canonical box gives its own bytes. Assumes nothing.
use Rattle.std.specs.Prelude.{Ok}
use mathlib.Core.Path.{◌≡◌, refl}
use mathlib.Core.List.{List, ◌++◌}
use Prim.Native.Nat.{ℕ, ◌≤◌, ◌*◌}
use native.Mathlib.Omega.{arith}
use lib.ListN.{length, take, drop}
use Rattle.numbers.specs.Field.{when}
use Rattle.put.specs.Put.{wrote}
use Rattle.layout.specs.Rule.{rule_of}
use Rattle.layout.specs.Canonical.{slots, firsts, Canonical}
use Rattle.rounds.proofs.TableBoxes.{table-back, table-own}
use Rattle.trun.specs.Trun.{kind, fields, from, to, cells, trun_of, trun_in}
use Rattle.trun.specs.declared.Trun.{Trun}

pub trun-back : (m : Trun) (entries buf : List ℕ) (n : ℕ) (out : List ℕ) → trun_in m entries buf ≡ wrote (Ok n) out →
    (place : ℕ) × (trun_of (take n out) ≡ Ok (m, place)) × (drop place (take n out) ≡ entries)
unfolding slots firsts rule_of when
trun-back = table-back from to cells 4 kind fields (omega arith) (λ m. refl)

pub trun-own : (b : List ℕ) (m : Trun) (place : ℕ) → Canonical kind fields (cells m * 4) b → trun_of b ≡ Ok (m, place) → (buf : List ℕ) → length b ≤ length buf →
    trun_in m (drop place b) buf ≡ wrote (Ok (length b)) (b ++ drop (length b) buf)
unfolding slots firsts rule_of when
trun-own = table-own from to cells 4 kind fields (λ v. refl) (omega arith)
