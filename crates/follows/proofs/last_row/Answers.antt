use Rattle.follows.proofs.Steps.{last-of-all, last-missing, last-next, last-cut}
use Rattle.follows.proofs.last_row.Goals as goal

pub returns-then-n-i : goal.returns-then-n-i
returns-then-n-i c =
    last-of-all c.args.moofs.now c.args.n c.args.i c.args.rows c.if-n-i.true

pub returns-in_default : goal.returns-in_default
returns-in_default c =
    last-missing c.args.moofs.now c.args.n c.args.i c.args.rows _ c.row.ensures c.in_default.is

pub returns-then-next-rows : goal.returns-then-next-rows
returns-then-next-rows c =
    last-next c.args.moofs.now c.args.n c.args.i c.args.rows _ c.row.ensures c.if-n-i.false _ c.in-Some.is c.if-next-rows.true

pub returns : goal.returns
returns c =
    last-cut c.args.moofs.now c.args.n c.args.i c.args.rows _ c.row.ensures c.if-n-i.false _ c.in-Some.is c.if-next-rows.false
