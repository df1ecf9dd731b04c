use Prim.Native.Nat.{◌-◌}
use lib.ListN.{drop}
use Rattle.merging.specs.Merging.{merged_from}
use Rattle.columns.specs.Columns.{lows_of}
use Rattle.columns.proofs.Written.{Writing}
use Rattle.builder.specs.Built.{pairs_of, runs_of}
use Rattle.builder.proofs.pairs.fill.Given as goal

abbrev pub invariant-loop-i : goal.invariant-loop-i
invariant-loop-i l =
    Writing (runs_of l.records l.n l.column) (pairs_of (merged_from l.run (drop l.i (lows_of l.records l.n l.column)))) l.initial.out l.out l.k

abbrev pub decreases-loop-i : goal.decreases-loop-i
decreases-loop-i l =
    l.n - l.i
