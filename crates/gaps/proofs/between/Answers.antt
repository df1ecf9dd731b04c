use Rattle.gaps.proofs.Signs.{late-before, late-time, far, ahead, back}
use native.Mathlib.Omega.{arith}
use Rattle.gaps.proofs.between.Goals as goal

pub returns-then-before-ge-TIME_BOUND : goal.returns-then-before-ge-TIME_BOUND
returns-then-before-ge-TIME_BOUND c =
    late-before c.args.before c.args.lasts c.args.time c.if-before-ge-TIME_BOUND.true

pub returns-then-time-ge-TIME_BOUND : goal.returns-then-time-ge-TIME_BOUND
returns-then-time-ge-TIME_BOUND c =
    late-time c.args.before c.args.lasts c.args.time c.if-time-ge-TIME_BOUND.true

pub returns-then-before-lasts : goal.returns-then-before-lasts
returns-then-before-lasts c =
    far c.args.before c.args.lasts c.args.time c.if-before-ge-TIME_BOUND.false c.if-time-ge-TIME_BOUND.false (omega arith)

pub returns-then-due-time : goal.returns-then-due-time
returns-then-due-time c =
    ahead c.args.before c.args.lasts c.args.time c.if-before-ge-TIME_BOUND.false c.if-time-ge-TIME_BOUND.false c.if-due-time.true

pub returns : goal.returns
returns c =
    back c.args.before c.args.lasts c.args.time c.if-before-ge-TIME_BOUND.false c.if-time-ge-TIME_BOUND.false c.if-due-time.false _ c.before_it.ensures
