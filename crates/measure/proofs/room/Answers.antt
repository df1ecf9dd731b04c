use Rattle.measure.proofs.Sized.{sized}
use Rattle.measure.proofs.room.Goals as goal

pub returns : goal.returns
returns c =
    sized 2621440 0
