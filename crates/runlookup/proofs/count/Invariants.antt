use Prim.Native.Nat.{◌+◌, ◌-◌, ◌^◌, ◌<◌}
use mathlib.Core.Path.{◌≡◌}
use lib.ListN.{drop}
use Rattle.fragments.specs.Samples.{count_in}
use Rattle.runtable.specs.Table.{rows_of}
use Rattle.runlookup.proofs.count.Given as goal

abbrev pub invariant-loop-i : goal.invariant-loop-i
invariant-loop-i l =
    (l.many + count_in l.track (drop l.i (rows_of l.table l.n)) ≡ count_in l.track (rows_of l.table l.n)) × (l.many < 2 ^ 64)

abbrev pub decreases-loop-i : goal.decreases-loop-i
decreases-loop-i l =
    l.n - l.i
