use Rattle.follows.proofs.Steps.{number-free, number-right, number-found}
use Rattle.follows.proofs.then_numbered.Goals as goal

pub returns-then-moof-due : goal.returns-then-moof-due
returns-then-moof-due c =
    number-right c.args.told c.args.due c.args.moof c.args.some c.if-some.true c.if-moof-due.true

pub returns-then-some : goal.returns-then-some
returns-then-some c =
    number-found c.args.told c.args.due c.args.moof c.args.some c.if-some.true c.if-moof-due.false _ c.then_found.ensures

pub returns : goal.returns
returns c =
    number-free c.args.told c.args.due c.args.moof c.args.some c.if-some.false
