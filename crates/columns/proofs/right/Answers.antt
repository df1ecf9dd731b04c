use Rattle.columns.proofs.Cells.{by_zero, by-narrow, by-positive, by-negative}
use Rattle.columns.proofs.right.Goals as goal

pub returns-then-x-lt-POSITIVE : goal.returns-then-x-lt-POSITIVE
returns-then-x-lt-POSITIVE c =
    by-positive c.args.rule c.args.x c.in-Signed.is c.if-x-lt-POSITIVE.true

pub returns-in-Zero : goal.returns-in-Zero
returns-in-Zero c =
    by_zero c.args.rule c.args.x c.in-Zero.is

pub returns-in-Narrow : goal.returns-in-Narrow
returns-in-Narrow c =
    by-narrow c.args.rule c.args.x c.in-Narrow.is

pub returns-else-x-lt-POSITIVE : goal.returns-else-x-lt-POSITIVE
returns-else-x-lt-POSITIVE c =
    by-negative c.args.rule c.args.x c.in-Signed.is c.if-x-lt-POSITIVE.false
