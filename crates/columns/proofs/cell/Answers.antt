use Rattle.columns.proofs.Cells.{no-column, no_record, cell-is}
use Rattle.columns.proofs.cell.Goals as goal

pub returns-then-column-ge-RECORD : goal.returns-then-column-ge-RECORD
returns-then-column-ge-RECORD c =
    no-column c.args.records.now c.args.column c.args.i c.if-column-ge-RECORD.true

pub returns-then-records-i : goal.returns-then-records-i
returns-then-records-i c =
    no_record c.args.records.now c.args.column c.args.i c.if-column-ge-RECORD.false c.if-records-i.true

pub returns : goal.returns
returns c =
    cell-is c.args.records.now c.args.column c.args.i c.if-column-ge-RECORD.false c.if-records-i.false
