use Prim.Native.Nat.{◌-◌}
use lib.ListN.{drop}
use Rattle.columns.specs.Columns.{column_of}
use Rattle.columns.proofs.Written.{Writing}
use Rattle.builder.specs.Built.{syncs_from, syncs_in}
use Rattle.builder_stss.proofs.fill.Given as goal

abbrev pub invariant-loop-i : goal.invariant-loop-i
invariant-loop-i l =
    Writing (syncs_in l.records l.n) (syncs_from l.i (drop l.i (column_of l.records l.n 6))) l.initial.out l.out l.k

abbrev pub decreases-loop-i : goal.decreases-loop-i
decreases-loop-i l =
    l.n - l.i
