use Prim.Native.Nat.{◌-◌}
use mathlib.Core.Path.{refl}
use native.Mathlib.Omega.{arith}
use native.Mathlib.Nat.{mod-lt}
use Rattle.seek.proofs.Walk.{spot-start, looks-none, looks-here, looks_on, product, divides, quotient}
use Rattle.seek.proofs.chunk_at.Goals as goal

pub loop-i-init : goal.loop-i-init
loop-i-init c =
    (spot-start _ _ _, omega arith)

pub returns-then-left-inside : goal.returns-then-left-inside
returns-then-left-inside c =
    looks-here _ _ _ _ _ _ c.loop-i.invariant.0 _ c.loop-i-test.true c.entry-e.ensures _ c.least-many.ensures c.if-left-inside.true

pub loop-i-preserved : goal.loop-i-preserved
loop-i-preserved c =
    (looks_on _ _ _ _ _ _ c.loop-i.invariant.0 _ c.loop-i-test.true c.entry-e.ensures _ c.least-many.ensures c.if-left-inside.false, omega arith)

pub returns : goal.returns
returns c =
    looks-none _ _ _ _ _ _ c.loop-i.invariant.0 _ c.loop-i-test.false refl
