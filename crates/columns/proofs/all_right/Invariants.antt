use mathlib.Core.Path.{◌≡◌}
use Prim.Native.Nat.{◌-◌}
use lib.ListN.{drop}
use Rattle.columns.specs.Columns.{column_of, all_meet}
use Rattle.columns.proofs.all_right.Given as goal

abbrev pub invariant-loop-i : goal.invariant-loop-i
invariant-loop-i l =
    all_meet l.rule (drop l.i (column_of l.records l.n l.column)) ≡ all_meet l.rule (column_of l.records l.n l.column)

abbrev pub decreases-loop-i : goal.decreases-loop-i
decreases-loop-i l =
    l.n - l.i
