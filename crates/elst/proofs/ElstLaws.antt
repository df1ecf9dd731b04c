-- elst: what is written reads back the same, and a canonical box gives its own bytes. Assumes nothing.
use Rattle.std.specs.Prelude.{Ok}
use mathlib.Core.Path.{◌≡◌, refl}
use mathlib.Core.List.{List, ◌++◌}
use Prim.Native.Nat.{ℕ, ◌≤◌}
use native.Mathlib.Omega.{arith}
use lib.ListN.{length, take, drop}
use Rattle.numbers.specs.Field.{when}
use Rattle.put.specs.Put.{wrote}
use Rattle.layout.specs.Rule.{rule_of}
use Rattle.layout.specs.Canonical.{slots, firsts, Canonical}
use Rattle.rows.proofs.Moved.{moved, judge-moved}
use Rattle.rounds.proofs.JudgedBoxes.{judged-back, judged-own}
use Rattle.elst.specs.Elst.{kind, fields, from, to, size, judge, elst_of, elst_in, cells}
use Rattle.elst.specs.declared.Elst.{Elst}

-- the verdict does not hang on where the entries lie
move : (m : Elst) (s : ℕ) (b : List ℕ) → s ≤ length b → judge m b s ≡ moved s (judge m (drop s b) 0)
move m s b h = judge-moved s b h m.count (cells m.version)

pub elst-back : (m : Elst) (entries buf : List ℕ) (n : ℕ) (out : List ℕ) → elst_in m entries buf ≡ wrote (Ok n) out →
    (place : ℕ) × (elst_of (take n out) ≡ Ok (m, place)) × (drop place (take n out) ≡ entries)
unfolding slots firsts rule_of when
elst-back = judged-back from to size judge move kind fields (omega arith) (λ m. refl)

pub elst-own : (b : List ℕ) (m : Elst) (place : ℕ) → Canonical kind fields (size m) b → elst_of b ≡ Ok (m, place) → (buf : List ℕ) → length b ≤ length buf →
    elst_in m (drop place b) buf ≡ wrote (Ok (length b)) (b ++ drop (length b) buf)
unfolding slots firsts rule_of when
elst-own = judged-own from to size judge move kind fields (λ v. refl) (omega arith)
