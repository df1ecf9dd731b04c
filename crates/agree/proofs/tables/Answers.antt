use Rattle.agree.proofs.Cases.{all-agree}
use Rattle.agree.proofs.tables.Goals as goal

pub returns : goal.returns
returns c =
    all-agree _ _ _ _ _ _ _ c.times_count-timed.ensures c.shifts_count-shifted.ensures c.chunks_count-placed.ensures c.heads_within-chunked.ensures c.syncs_within-synced.ensures
