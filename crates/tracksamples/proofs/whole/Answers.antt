use Rattle.tracksamples.proofs.Cases.{whole-over, whole_is}
use Rattle.tracksamples.proofs.whole.Goals as goal

pub returns-in-None : goal.returns-in-None
returns-in-None c =
    whole-over c.args.tally c.in-None.is

pub returns-in-Some : goal.returns-in-Some
returns-in-Some c =
    whole_is c.args.tally _ c.in-Some.is
