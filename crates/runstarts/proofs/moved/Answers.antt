use native.Mathlib.Omega.{arith}
use Rattle.runstarts.proofs.Starts.{ahead-at, ahead-out, back_at, back-out}
use Rattle.runstarts.proofs.moved.Goals as goal

pub returns-then-base-ahead : goal.returns-then-base-ahead
returns-then-base-ahead c =
    ahead-out _ _ c.if-offset-lt2147483648.true (omega arith)

pub returns-then-offset-lt2147483648 : goal.returns-then-offset-lt2147483648
returns-then-offset-lt2147483648 c =
    ahead-at _ _ c.if-offset-lt2147483648.true (omega arith)

pub returns-then-base-back : goal.returns-then-base-back
returns-then-base-back c =
    back-out _ _ c.if-offset-lt2147483648.false c.ranges.offset.fits c.if-base-back.true

pub returns : goal.returns
returns c =
    back_at _ _ c.if-offset-lt2147483648.false c.ranges.offset.fits c.ranges.base.fits c.if-base-back.false
