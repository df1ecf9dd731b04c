use Prim.Native.Nat.{◌-◌}
use Rattle.passes.proofs.Zeros.{Lasting}
use Rattle.passes.proofs.before_idle.Given as goal

abbrev pub invariant-loop-i : goal.invariant-loop-i
invariant-loop-i l =
    Lasting l.file l.t l.n l.i l.left

abbrev pub decreases-loop-i : goal.decreases-loop-i
decreases-loop-i l =
    l.t.count - l.i
