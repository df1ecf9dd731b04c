use Rattle.std.proofs.Common.{◌≡◌, ◌-◌, drop}
use Rattle.runtable.specs.Table.{rows_of}
use Rattle.follows.specs.Walk.{walked, after_runs}
use Rattle.follows.proofs.in_track.Given as goal

abbrev pub invariant-loop-i : goal.invariant-loop-i
invariant-loop-i l =
    after_runs l.file l.track l.at (drop l.i (rows_of l.runs l.to)) (walked l.last l.so_far) ≡ after_runs l.file l.track l.at (drop l.initial.i (rows_of l.runs l.to)) (walked l.initial.last l.initial.so_far)

abbrev pub decreases-loop-i : goal.decreases-loop-i
decreases-loop-i l =
    l.to - l.i
