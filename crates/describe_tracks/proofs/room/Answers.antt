use Rattle.describe_tracks.proofs.Sized.{sized}
use Rattle.describe_tracks.proofs.room.Goals as goal

pub returns : goal.returns
returns c =
    sized 1048576 0
