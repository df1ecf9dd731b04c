use Prim.Native.Nat.{◌-◌}
use mathlib.Core.Path.{◌≡◌}
use Rattle.rows.specs.Rows.{entries_of}
use Rattle.rows.proofs.judge.Given as goal

abbrev pub invariant-loop-left : goal.invariant-loop-left
invariant-loop-left l =
    entries_of l.left l.cells l.b l.p l.last ≡ entries_of l.n l.cells l.b l.at 0

abbrev pub decreases-loop-left : goal.decreases-loop-left
decreases-loop-left l =
    l.left
