-- vpcC: what is written reads back the same, and a canonical box gives its own bytes. Assumes nothing.
use Rattle.std.specs.Prelude.{Ok}
use mathlib.Core.Path.{◌≡◌, refl, ap, ◌∙◌}
use mathlib.Core.List.{List, ◌++◌}
use Prim.Native.Nat.{ℕ, ◌*◌, ◌≤◌}
use native.Mathlib.Omega.{arith}
use lib.ListN.{length, take, drop}
use lib.Seq.{take_all}
use Rattle.numbers.specs.Field.{when}
use Rattle.put.specs.Put.{wrote}
use Rattle.layout.specs.Rule.{rule_of}
use Rattle.layout.specs.Canonical.{slots, firsts, Canonical}
use Rattle.rounds.proofs.TableBoxes.{as_many, table-back, table-own}
use Rattle.vpcc.specs.Vpcc.{kind, fields, from, to, cells, vpcc_of, vpcc_in, within, initialization_of}
use Rattle.vpcc.specs.declared.Vpcc.{Vpcc}

pub vpcc-back : (m : Vpcc) (initial buf : List ℕ) (n : ℕ) (out : List ℕ) → vpcc_in m initial buf ≡ wrote (Ok n) out →
    (place : ℕ) × (vpcc_of (take n out) ≡ Ok (m, place)) × (drop place (take n out) ≡ initial)
unfolding slots firsts rule_of when
vpcc-back = table-back from to cells 1 kind fields (omega arith) (λ m. refl)

pub vpcc-own : (b : List ℕ) (m : Vpcc) (place : ℕ) → Canonical kind fields (cells m * 1) b → vpcc_of b ≡ Ok (m, place) → (buf : List ℕ) → length b ≤ length buf →
    vpcc_in m (drop place b) buf ≡ wrote (Ok (length b)) (b ++ drop (length b) buf)
unfolding slots firsts rule_of when
vpcc-own = table-own from to cells 1 kind fields (λ v. refl) (omega arith)

-- and the initialization data are handed back
pub vpcc-initial : (m : Vpcc) (initial buf : List ℕ) (n : ℕ) (out : List ℕ) → vpcc_in m initial buf ≡ wrote (Ok n) out → initialization_of (take n out) ≡ initial
vpcc-initial m initial buf n out w =
    let p = vpcc-back m initial buf n out w in
    let a = as_many kind fields (to m) (cells m * 1) initial buf n out w in
    ap (within (take n out)) p.1 ∙ ap (take (cells m)) p.2 ∙ take_all (cells m) initial (omega (arith, a.0))
