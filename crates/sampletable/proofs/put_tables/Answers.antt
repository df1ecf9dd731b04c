use Rattle.sampletable.specs.declared.Table.TheVariants.{Stts, Ctts, Stsc, Stsz, Offsets}
use Rattle.sampletable.specs.SampleTable.{table_of}
use Rattle.sampletable.proofs.Puts.{first-room, rest-room, tables-put, from2, from3, from4, from5, from6}
use Rattle.sampletable.proofs.put_tables.Goals as goal

pub returns : goal.returns
returns c =
    tables-put c.args.timescale c.args.records.now c.args.n c.args.out.now _ _ _ _ _ _ c.args.at c.put_table-second.result c.put_table-third.result c.put_table-fourth.result c.put_table-fifth.result c.put_table-sixth.result c.put_table.result c.put_table-second.ensures c.put_table-third.ensures c.put_table-fourth.ensures c.put_table-fifth.ensures c.put_table-sixth.ensures c.put_table.ensures
