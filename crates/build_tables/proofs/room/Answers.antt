use Rattle.build_tables.proofs.Sized.{sized}
use Rattle.build_tables.proofs.room.Goals as goal

pub returns : goal.returns
returns c =
    sized 1048576 0
