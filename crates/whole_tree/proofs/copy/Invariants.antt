use mathlib.Core.Path.{◌≡◌}
use Prim.Native.Nat.{◌-◌}
use lib.ListN.{take, drop}
use lib.Seq.{sets}
use Rattle.whole_tree.proofs.copy.Given as goal

abbrev pub invariant-loop-i : goal.invariant-loop-i
invariant-loop-i l =
    sets l.to l.i (take (l.n - l.i) (drop l.i l.from)) ≡ sets l.initial.to 0 (take l.n l.from)

abbrev pub decreases-loop-i : goal.decreases-loop-i
decreases-loop-i l =
    l.n - l.i
