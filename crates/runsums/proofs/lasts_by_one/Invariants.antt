use Prim.Native.Nat.{◌+◌, ◌-◌, ◌*◌, ◌≤◌}
use mathlib.Core.Path.{◌≡◌}
use Rattle.runs.specs.Samples.{sum_from, durations_in}
use Rattle.runs.specs.Values.{duration_at}
use Rattle.runsums.proofs.lasts_by_one.Given as goal

abbrev pub invariant-loop-i : goal.invariant-loop-i
invariant-loop-i l =
    (l.sum + sum_from (duration_at l.file l.run) (l.count - l.i) l.i ≡ durations_in l.file l.run) × (l.sum ≤ l.i * 4294967295)

abbrev pub decreases-loop-i : goal.decreases-loop-i
decreases-loop-i l =
    l.count - l.i
