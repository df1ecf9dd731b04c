use Prim.Native.Nat.{◌-◌, ◌≤◌}
use mathlib.Core.Path.{◌≡◌}
use lib.ListN.{drop}
use Rattle.runs.specs.Samples.{run_samples}
use Rattle.runs.specs.Lane as inner
use Rattle.runlookup.proofs.nth.Given as goal

abbrev pub invariant-loop-i : goal.invariant-loop-i
invariant-loop-i l =
    (inner.left l.file l.run l.lane ≡ drop l.i (run_samples l.file l.run l.earlier)) × (l.i ≤ l.index)

abbrev pub decreases-loop-i : goal.decreases-loop-i
decreases-loop-i l =
    l.index - l.i
