use Rattle.lookup.proofs.Cases.{timed-all, timed-few}
use Rattle.lookup.proofs.timed.Goals as goal

pub returns-in-At : goal.returns-in-At
returns-in-At c =
    timed-all _ _ _ c.if-bound-eq0.false _ c.pairs.ensures _ c.value_at.ensures _ _ c.in-At.is

pub returns-in-Few : goal.returns-in-Few
returns-in-Few c =
    timed-few _ _ _ c.if-bound-eq0.false _ c.pairs.ensures _ c.value_at.ensures _ c.in-Few.is
