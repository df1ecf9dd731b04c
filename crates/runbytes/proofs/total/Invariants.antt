use Prim.Native.Nat.{◌+◌, ◌-◌, ◌^◌, ◌<◌}
use mathlib.Core.Path.{◌≡◌}
use lib.ListN.{drop}
use Rattle.runlookup.specs.Lookup.{bytes_of_run, bytes_of_runs}
use Rattle.fragments.specs.Samples.{samples_of_runs}
use Rattle.runtable.specs.Table.{rows_of}
use Rattle.samples.specs.Lists.{bytes_of}
use Rattle.runbytes.proofs.total.Given as goal

abbrev pub invariant-loop-i : goal.invariant-loop-i
invariant-loop-i l =
    (l.sum + bytes_of_runs l.file l.track (drop l.i (rows_of l.table l.n)) ≡ bytes_of (samples_of_runs l.file (rows_of l.table l.n) l.track)) × (l.sum < 2 ^ 64)

abbrev pub decreases-loop-i : goal.decreases-loop-i
decreases-loop-i l =
    l.n - l.i
