use Rattle.tables.specs.Samples.{samples_of}
use Rattle.lists.proofs.Laws.{count-all}
use Rattle.lists.proofs.count.Goals as goal

pub returns-then-surely_held : goal.returns-then-surely_held
returns-then-surely_held c =
    count-all (samples_of c.args.file.now c.args.track) _ (c.surely_held.ensures c.if-surely_held.true) c.count.ensures
