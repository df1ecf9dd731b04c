use Prim.Native.Nat.{◌-◌}
use native.Mathlib.Omega.{arith}
use Rattle.places.specs.Kinds.{traf}
use Rattle.needed.specs.Needed.{each}
use Rattle.needed.proofs.Lacks.{each_none, each_next, each_at, each-end}
use Rattle.needed.proofs.moofs.in_trafs.Goals as goal

pub loop-j-init : goal.loop-j-init
loop-j-init c =
    (omega arith, each_none _ _ _ _)

pub returns-then-kind-ne0 : goal.returns-then-kind-ne0
returns-then-kind-ne0 c =
    each_at _ _ _ _ _ _ _ c.loop-j-test.true c.loop-j.invariant.1 c.traf_at-kind.ensures c.if-kind-ne0.true

pub loop-j-preserved : goal.loop-j-preserved
loop-j-preserved c =
    (omega arith, each_next _ _ _ _ _ _ c.loop-j.invariant.1 c.traf_at-kind.ensures c.if-kind-ne0.false)
