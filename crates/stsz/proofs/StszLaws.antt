-- stsz: what is written reads back the same, and a canonical box gives its own bytes. Assumes nothing.
use Rattle.std.specs.Prelude.{Ok}
use mathlib.Core.Path.{◌≡◌, refl}
use mathlib.Core.List.{List, ◌++◌}
use Prim.Native.Nat.{ℕ, ◌≤◌, ◌*◌}
use native.Mathlib.Omega.{arith}
use lib.ListN.{length, take, drop}
use Rattle.numbers.specs.Field.{when}
use Rattle.put.specs.Put.{wrote}
use Rattle.layout.specs.Rule.{rule_of}
use Rattle.layout.specs.Canonical.{slots, firsts, Canonical}
use Rattle.rounds.proofs.TableBoxes.{table-back, table-own}
use Rattle.stsz.specs.Stsz.{kind, fields, from, to, cells, stsz_of, stsz_in}
use Rattle.stsz.specs.declared.Stsz.{Stsz}

pub stsz-back : (m : Stsz) (entries buf : List ℕ) (n : ℕ) (out : List ℕ) → stsz_in m entries buf ≡ wrote (Ok n) out →
    (place : ℕ) × (stsz_of (take n out) ≡ Ok (m, place)) × (drop place (take n out) ≡ entries)
unfolding slots firsts rule_of when
stsz-back = table-back from to cells 4 kind fields (omega arith) (λ m. refl)

pub stsz-own : (b : List ℕ) (m : Stsz) (place : ℕ) → Canonical kind fields (cells m * 4) b → stsz_of b ≡ Ok (m, place) → (buf : List ℕ) → length b ≤ length buf →
    stsz_in m (drop place b) buf ≡ wrote (Ok (length b)) (b ++ drop (length b) buf)
unfolding slots firsts rule_of when
stsz-own = table-own from to cells 4 kind fields (λ v. refl) (omega arith)
