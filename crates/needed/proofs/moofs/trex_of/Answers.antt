use Prim.Native.Nat.{◌-◌}
use native.Mathlib.Omega.{arith}
use Rattle.needed.proofs.Lacks.{trex-none, trex-next, trex-at, trex-end}
use Rattle.needed.proofs.moofs.trex_of.Goals as goal

pub loop-j-init : goal.loop-j-init
loop-j-init c =
    (omega arith, trex-none _ _ _)

pub returns-then-extends : goal.returns-then-extends
returns-then-extends c =
    trex-at _ _ _ _ _ _ _ c.rows-end.ensures c.loop-j-test.true c.loop-j.invariant.1 c.extends.ensures c.if-extends.true

pub loop-j-preserved : goal.loop-j-preserved
loop-j-preserved c =
    (omega arith, trex-next _ _ _ _ _ c.loop-j.invariant.1 c.extends.ensures c.if-extends.false)
