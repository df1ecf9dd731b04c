use Rattle.lookup.proofs.Cases.{counted}
use Rattle.lookup.proofs.count.Goals as goal

pub returns : goal.returns
returns c =
    counted c.args.file.now c.args.track _ _ c.timed.ensures c.placed.ensures
