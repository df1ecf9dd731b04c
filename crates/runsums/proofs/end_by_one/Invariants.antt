use Prim.Native.Nat.{◌+◌, ◌-◌, ◌^◌, ◌<◌}
use mathlib.Core.Path.{◌≡◌}
use Rattle.runs.specs.Values.{size_at}
use Rattle.runs.specs.Samples.{sum_from, bytes_in}
use Rattle.runsums.proofs.end_by_one.Given as goal

abbrev pub invariant-loop-i : goal.invariant-loop-i
invariant-loop-i l =
    (l.at + sum_from (size_at l.file l.run) (l.count - l.i) l.i ≡ l.initial.at + bytes_in l.file l.run) × (l.at < 2 ^ 64)

abbrev pub decreases-loop-i : goal.decreases-loop-i
decreases-loop-i l =
    l.count - l.i
