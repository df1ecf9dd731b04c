use Rattle.agree.proofs.Cases.{chunks-more, chunks-all}
use Rattle.agree.proofs.chunks_count.Goals as goal

pub returns-in-At : goal.returns-in-At
returns-in-At c =
    chunks-more _ _ _ _ _ c.groups.ensures _ c.chunk_at.ensures _ _ c.in-At.is

pub returns-in-Few : goal.returns-in-Few
returns-in-Few c =
    chunks-all _ _ _ _ _ c.groups.ensures _ c.chunk_at.ensures _ c.in-Few.is
