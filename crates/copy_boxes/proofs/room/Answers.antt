use Rattle.copy_boxes.proofs.Sized.{sized}
use Rattle.copy_boxes.proofs.room.Goals as goal

pub returns : goal.returns
returns c =
    sized 1048576 0
