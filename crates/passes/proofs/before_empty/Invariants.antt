use Prim.Native.Nat.{◌-◌}
use Rattle.passes.proofs.Zeros.{Sized}
use Rattle.passes.proofs.before_empty.Given as goal

abbrev pub invariant-loop-i : goal.invariant-loop-i
invariant-loop-i l =
    Sized l.file l.t l.n l.i

abbrev pub decreases-loop-i : goal.decreases-loop-i
decreases-loop-i l =
    l.n - l.i
