use Rattle.agree.proofs.Cases.{syncs-there}
use Rattle.agree.proofs.syncs_within.Goals as goal

pub returns : goal.returns
returns c =
    syncs-there _ _ _ _ _ c.in-Some.is c.heads_within.ensures
