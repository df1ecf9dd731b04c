-- tfdt: what is written reads back the same, and a canonical box gives its own bytes. Assumes nothing.
use Rattle.std.specs.Prelude.{Ok}
use mathlib.Core.Path.{◌≡◌, refl}
use mathlib.Core.List.{List, ◌++◌}
use Prim.Native.Nat.{ℕ, ◌≤◌}
use native.Mathlib.Omega.{arith}
use lib.ListN.{length, take, drop}
use Rattle.numbers.specs.Field.{when}
use Rattle.put.specs.Put.{wrote}
use Rattle.layout.specs.Rule.{rule_of}
use Rattle.layout.specs.Canonical.{slots, firsts, Canonical}
use Rattle.rounds.proofs.Boxes.{plain_back, plain-own}
use Rattle.tfdt.specs.Tfdt.{kind, fields, from, to, tfdt_of, tfdt_in}
use Rattle.tfdt.specs.declared.Tfdt.{Tfdt}

pub tfdt-back : (m : Tfdt) (buf : List ℕ) (n : ℕ) (out : List ℕ) → tfdt_in m buf ≡ wrote (Ok n) out → tfdt_of (take n out) ≡ Ok m
unfolding slots firsts rule_of when
tfdt-back = plain_back from to kind fields (omega arith) (λ m. refl)

pub tfdt-own : (b : List ℕ) → Canonical kind fields 0 b → (m : Tfdt) → tfdt_of b ≡ Ok m → (buf : List ℕ) → length b ≤ length buf →
    tfdt_in m buf ≡ wrote (Ok (length b)) (b ++ drop (length b) buf)
unfolding slots firsts rule_of when
tfdt-own = plain-own from to kind fields (λ v. refl) (omega arith)
