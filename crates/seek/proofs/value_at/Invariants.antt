use Prim.Native.Nat.{◌-◌}
use Rattle.seek.proofs.Walk.{Seeks}
use Rattle.seek.proofs.value_at.Given as goal

abbrev pub invariant-loop-i : goal.invariant-loop-i
invariant-loop-i l =
    Seeks l.file l.rows l.k l.i l.left l.sum

abbrev pub decreases-loop-i : goal.decreases-loop-i
decreases-loop-i l =
    l.rows.count - l.i
