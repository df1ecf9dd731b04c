use Rattle.list_samples.proofs.Sized.{sized}
use Rattle.list_samples.proofs.room.Goals as goal

pub returns : goal.returns
returns c =
    sized 1048576 0
