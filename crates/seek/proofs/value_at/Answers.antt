use Prim.Native.Nat.{◌-◌}
use mathlib.Core.Path.{refl}
use native.Mathlib.Omega.{arith}
use Rattle.seek.proofs.Walk.{seeks-start, seeks-none, seeks-here, seeks-on, product}
use Rattle.seek.proofs.value_at.Goals as goal

pub loop-i-init : goal.loop-i-init
loop-i-init c =
    seeks-start _ _ _

pub returns-then-left-many : goal.returns-then-left-many
returns-then-left-many c =
    seeks-here _ _ _ _ _ _ c.loop-i.invariant _ c.loop-i-test.true c.entry-e.ensures c.if-left-many.true

pub loop-i-preserved : goal.loop-i-preserved
loop-i-preserved c =
    seeks-on _ _ _ _ _ _ c.loop-i.invariant _ c.loop-i-test.true c.entry-e.ensures c.if-left-many.false (omega arith)

pub returns : goal.returns
returns c =
    seeks-none _ _ _ _ _ _ c.loop-i.invariant _ c.loop-i-test.false refl
