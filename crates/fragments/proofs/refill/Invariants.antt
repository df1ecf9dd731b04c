use Prim.Native.Nat.{◌-◌}
use mathlib.Core.Path.{◌≡◌}
use lib.ListN.{drop}
use Rattle.fragments.specs.Samples.{samples_after}
use Rattle.runtable.specs.Table.{rows_of}
use Rattle.fragments.proofs.refill.Given as goal

abbrev pub invariant-loop-i : goal.invariant-loop-i
invariant-loop-i l =
    samples_after l.file l.track l.number (drop l.i (rows_of l.table l.count)) ≡ samples_after l.file l.track l.number (drop l.initial.i (rows_of l.table l.count))

abbrev pub decreases-loop-i : goal.decreases-loop-i
decreases-loop-i l =
    l.count - l.i
