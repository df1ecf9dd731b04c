use Prim.Native.Nat.{◌-◌}
use mathlib.Core.Path.{refl}
use native.Mathlib.Omega.{arith}
use Rattle.agree.proofs.Cases.{past, not-past, none_left}
use Rattle.seek.proofs.Walk.{product}
use Rattle.agree.proofs.heads_within.Goals as goal

pub returns-then-most-n : goal.returns-then-most-n
returns-then-most-n c =
    past _ _ _ _ _ c.loop-i.invariant _ c.loop-i-test.true c.four-n.ensures c.if-most-n.true

pub loop-i-preserved : goal.loop-i-preserved
loop-i-preserved c =
    not-past _ _ _ _ _ c.loop-i.invariant _ c.loop-i-test.true c.four-n.ensures c.if-most-n.false

pub returns : goal.returns
returns c =
    none_left _ _ _ _ _ c.loop-i.invariant c.loop-i-test.false
