use Rattle.mooftable.proofs.Stored.{missing, read}
use Rattle.mooftable.proofs.row.Goals as goal

pub returns : goal.returns
returns c =
    read c.args.table.now c.args.i _ c.if-table-i.false c.low.ensures
