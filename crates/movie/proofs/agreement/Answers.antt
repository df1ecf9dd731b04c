use Rattle.movie.proofs.Steps.{agrees, differs}
use Rattle.movie.proofs.agreement.Goals as goal

pub returns-then-tables : goal.returns-then-tables
returns-then-tables c =
    agrees c.args.file.now c.args.number c.args.track _ c.tables.ensures c.if-tables.true

pub returns : goal.returns
returns c =
    differs c.args.file.now c.args.number c.args.track _ c.tables.ensures c.if-tables.false
