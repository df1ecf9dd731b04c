use Rattle.seek.proofs.Spans.{Added}
use lib.ListN.{length}
use Prim.Native.Nat.{◌-◌}
use Rattle.seek.proofs.sum_of.Given as goal

abbrev pub invariant-loop-i : goal.invariant-loop-i
invariant-loop-i l =
    Added l.part l.i l.sum

abbrev pub decreases-loop-i : goal.decreases-loop-i
decreases-loop-i l =
    length l.part - l.i
