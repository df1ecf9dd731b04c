use Rattle.follows.proofs.Steps.{timed-free, timed-over, timed-right, timed-found}
use Rattle.follows.proofs.then_timed.Goals as goal

pub returns-in-None : goal.returns-in-None
returns-in-None c =
    timed-over c.args.told c.args.before c.args.time c.args.track c.args.at c.if-before.true _ c.between.ensures c.in-None.is

pub returns-then-gap-eq0 : goal.returns-then-gap-eq0
returns-then-gap-eq0 c =
    timed-right c.args.told c.args.before c.args.time c.args.track c.args.at c.if-before.true _ c.between.ensures _ c.in-Some.is c.if-gap-eq0.true

pub returns-in-Some : goal.returns-in-Some
returns-in-Some c =
    timed-found c.args.told c.args.before c.args.time c.args.track c.args.at c.if-before.true _ c.between.ensures _ c.in-Some.is c.if-gap-eq0.false _ c.then_found.ensures

pub returns : goal.returns
returns c =
    timed-free c.args.told c.args.before c.args.time c.args.track c.args.at c.if-before.false
