use mathlib.Core.Path.{◌≡◌}
use Prim.Native.Nat.{◌-◌}
use lib.ListN.{drop}
use Rattle.tables.specs.Tables.{values_of}
use Rattle.tables.specs.Rows.{rows_of}
use Rattle.lanes.specs.Steps.{rows_at}
use Rattle.lanes.proofs.run_fill.Given as goal

abbrev pub invariant-loop-i : goal.invariant-loop-i
invariant-loop-i l =
    values_of (drop l.i (rows_of l.file (rows_at l.at l.count l.grouped l.chunks))) ≡ values_of (drop l.from (rows_of l.file (rows_at l.at l.count l.grouped l.chunks)))

abbrev pub decreases-loop-i : goal.decreases-loop-i
decreases-loop-i l =
    l.count - l.i
