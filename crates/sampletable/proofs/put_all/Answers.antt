use Rattle.sampletable.proofs.Whole.{all-put}
use Rattle.sampletable.proofs.put_all.Goals as goal

pub returns : goal.returns
returns c =
    all-put c.args.timescale c.args.records.now c.args.n c.args.stsd.now c.args.out.now _ _ _ _ c.args.total c.write.result c.write-2.result c.part.result c.requires.1 c.requires.2 c.requires.3 c.write.ensures c.write-2.ensures c.part.ensures c.put_tables.ensures
