use Prim.Native.Nat.{◌-◌}
use mathlib.Core.Path.{refl}
use Rattle.lookup.proofs.Cases.{flag-all, flag-low, flag-hit, flag-on, flag-end}
use Rattle.lookup.proofs.flag.Goals as goal

pub returns-then-n-last : goal.returns-then-n-last
returns-then-n-last c =
    flag-low _ _ _ _ c.in-Some.is _ _ c.loop-i.invariant _ c.loop-i-test.true c.four-n.ensures c.if-n-last.true

pub returns-then-n-number : goal.returns-then-n-number
returns-then-n-number c =
    flag-hit _ _ _ _ c.in-Some.is _ _ c.loop-i.invariant _ c.loop-i-test.true c.four-n.ensures c.if-n-last.false c.if-n-number.true

pub loop-i-preserved : goal.loop-i-preserved
loop-i-preserved c =
    flag-on _ _ _ _ c.in-Some.is _ _ c.loop-i.invariant _ c.loop-i-test.true c.four-n.ensures c.if-n-last.false c.if-n-number.false

pub returns : goal.returns
returns c =
    flag-end _ _ _ _ c.in-Some.is _ _ c.loop-i.invariant c.loop-i-test.false
