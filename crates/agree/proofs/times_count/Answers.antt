use Rattle.agree.proofs.Cases.{times_more, times-all}
use Rattle.agree.proofs.times_count.Goals as goal

pub returns-in-At : goal.returns-in-At
returns-in-At c =
    times_more _ _ _ _ c.pairs.ensures _ c.value_at.ensures _ _ c.in-At.is

pub returns-in-Few : goal.returns-in-Few
returns-in-Few c =
    times-all _ _ _ _ c.pairs.ensures _ c.value_at.ensures _ c.in-Few.is
