use Rattle.framewitness.proofs.Sized.{sized}
use Rattle.framewitness.proofs.room.Goals as goal

pub returns : goal.returns
returns c =
    sized 4194304 0
