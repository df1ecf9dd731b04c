use Rattle.tracksamples.specs.TrackSamples.{sample_by}
use Rattle.tracksamples.proofs.Cases.{no_room, one-there}
use borrow.Author.Rules.{rules}
use Rattle.tracksamples.proofs.put_one.Goals as goal

pub returns-then-out-lt-RECORD : goal.returns-then-out-lt-RECORD
returns-then-out-lt-RECORD c =
    no_room c.args.out.now (sample_by c.args.number c.args.place c.args.sync) c.if-out-lt-RECORD.true

pub returns : goal.returns
returns c =
    one-there c.args.out.now c.args.number c.args.place c.args.sync _ _ c.if-out-lt-RECORD.false (search rules) c.put.ensures
