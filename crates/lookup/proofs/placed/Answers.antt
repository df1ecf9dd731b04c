use Rattle.lookup.proofs.Cases.{placed-all, placed-few}
use Rattle.lookup.proofs.placed.Goals as goal

pub returns-in-At : goal.returns-in-At
returns-in-At c =
    placed-all _ _ _ _ c.if-bound-eq0.false _ c.groups.ensures _ c.chunk_at.ensures _ _ c.in-At.is

pub returns-in-Few : goal.returns-in-Few
returns-in-Few c =
    placed-few _ _ _ _ c.if-bound-eq0.false _ c.groups.ensures _ c.chunk_at.ensures _ c.in-Few.is
