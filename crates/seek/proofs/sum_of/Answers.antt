use Rattle.seek.proofs.Spans.{added_none, added-all, added-cut, added-one}
use Prim.Native.Nat.{◌-◌}
use native.Mathlib.Omega.{arith}
use Rattle.seek.proofs.sum_of.Goals as goal

pub loop-i-init : goal.loop-i-init
loop-i-init c =
    added_none _

pub loop-i-preserved : goal.loop-i-preserved
loop-i-preserved c =
    added-one _ _ _ c.loop-i.invariant _ c.read.ensures _ c.in-Ok.is (omega arith)
