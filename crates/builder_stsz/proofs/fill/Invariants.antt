use Prim.Native.Nat.{◌-◌}
use lib.ListN.{drop}
use Rattle.columns.specs.Columns.{lows_of}
use Rattle.columns.proofs.Written.{Writing}
use Rattle.builder_stsz.proofs.fill.Given as goal

abbrev pub invariant-loop-i : goal.invariant-loop-i
invariant-loop-i l =
    Writing (lows_of l.records l.n 2) (drop l.i (lows_of l.records l.n 2)) l.initial.out l.out l.i

abbrev pub decreases-loop-i : goal.decreases-loop-i
decreases-loop-i l =
    l.n - l.i
