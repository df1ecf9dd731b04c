use Prim.Native.Nat.{◌-◌, ◌≤◌}
use Rattle.seek.proofs.Walk.{Looks}
use Rattle.seek.proofs.chunk_at.Given as goal

abbrev pub invariant-loop-i : goal.invariant-loop-i
invariant-loop-i l =
    Looks l.file l.rows l.k l.i l.left l.chunk × (l.left ≤ l.k)

abbrev pub decreases-loop-i : goal.decreases-loop-i
decreases-loop-i l =
    l.rows.count - l.i
