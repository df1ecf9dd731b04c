use native.Mathlib.Omega.{arith}
use borrow.Author.Rules.{rules}
use Rattle.runs.proofs.Steps.{no_more, over-number, over-read, over-time, takes}
use Rattle.runs.proofs.next.Goals as goal

pub returns-then-trun-i-clause-sample : goal.returns-then-trun-i-clause-sample
returns-then-trun-i-clause-sample c =
    no_more _ c.args.run c.args.lane c.if-trun-i.true

pub returns-then-lane-eq-LAST_NUMBER-clause-sample : goal.returns-then-lane-eq-LAST_NUMBER-clause-sample
returns-then-lane-eq-LAST_NUMBER-clause-sample c =
    over-number _ c.args.run c.args.lane c.if-trun-i.false c.if-lane-eq-LAST_NUMBER.true

pub returns-then-lane-wide-clause-sample : goal.returns-then-lane-wide-clause-sample
returns-then-lane-wide-clause-sample c =
    over-read _ c.args.run c.args.lane c.if-trun-i.false _ _ c.own-mine.ensures c.chosen-size.ensures (omega (arith, c.if-lane-wide.true))

pub returns-then-lane-ge-TIME_BOUND-clause-sample : goal.returns-then-lane-ge-TIME_BOUND-clause-sample
returns-then-lane-ge-TIME_BOUND-clause-sample c =
    over-time _ c.args.run c.args.lane c.if-trun-i.false c.if-lane-ge-TIME_BOUND.true

pub returns-clause-sample : goal.returns-clause-sample
returns-clause-sample c =
    takes _ c.args.run c.args.lane c.if-trun-i.false _ _ c.own-mine.ensures c.chosen-size.ensures _ _ _ _ c.chosen-duration.ensures c.flags_of-flags.ensures c.is_sync.ensures (search rules) (omega (arith, c.if-lane-eq-LAST_NUMBER.false, c.struct_known-2-1.given)) (omega (arith, c.if-lane-wide.false)) c.if-lane-ge-TIME_BOUND.false
