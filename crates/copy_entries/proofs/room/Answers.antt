use Rattle.copy_entries.proofs.Sized.{sized}
use Rattle.copy_entries.proofs.room.Goals as goal

pub returns : goal.returns
returns c =
    sized 1048576 0
