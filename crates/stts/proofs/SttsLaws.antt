-- stts: what is written reads back the same, and a canonical box gives its own bytes. Assumes nothing.
use Rattle.std.specs.Prelude.{Ok}
use mathlib.Core.Path.{◌≡◌, refl}
use mathlib.Core.List.{List, ◌++◌}
use Prim.Native.Nat.{ℕ, ◌≤◌, ◌*◌}
use native.Mathlib.Omega.{arith}
use lib.ListN.{length, take, drop}
use Rattle.numbers.specs.Field.{when}
use Rattle.put.specs.Put.{wrote}
use Rattle.layout.specs.Rule.{rule_of}
use Rattle.layout.specs.Canonical.{slots, firsts, Canonical}
use Rattle.rounds.proofs.TableBoxes.{table-back, table-own}
use Rattle.stts.specs.Stts.{kind, fields, from, to, cells, stts_of, stts_in}
use Rattle.stts.specs.declared.Stts.{Stts}

pub stts-back : (m : Stts) (entries buf : List ℕ) (n : ℕ) (out : List ℕ) → stts_in m entries buf ≡ wrote (Ok n) out →
    (place : ℕ) × (stts_of (take n out) ≡ Ok (m, place)) × (drop place (take n out) ≡ entries)
unfolding slots firsts rule_of when
stts-back = table-back from to cells 4 kind fields (omega arith) (λ m. refl)

pub stts-own : (b : List ℕ) (m : Stts) (place : ℕ) → Canonical kind fields (cells m * 4) b → stts_of b ≡ Ok (m, place) → (buf : List ℕ) → length b ≤ length buf →
    stts_in m (drop place b) buf ≡ wrote (Ok (length b)) (b ++ drop (length b) buf)
unfolding slots firsts rule_of when
stts-own = table-own from to cells 4 kind fields (λ v. refl) (omega arith)
