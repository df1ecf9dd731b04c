use Rattle.lookup.proofs.Cases.{summed}
use Rattle.lookup.proofs.total.Goals as goal

pub returns : goal.returns
returns c =
    summed c.args.file.now c.args.track _ _ c.count.ensures c.span.ensures
