use Rattle.lookup.proofs.Cases.{shift-absent, shift_is, shift_short}
use Rattle.locate.proofs.shift.Goals as goal

pub returns-in-At : goal.returns-in-At
returns-in-At c =
    shift_is c.args.file.now _ c.args.k _ c.in-Some.is _ c.pairs.ensures _ c.value_at.ensures _ _ c.in-At.is

pub returns-in-Few : goal.returns-in-Few
returns-in-Few c =
    shift_short c.args.file.now _ c.args.k _ c.in-Some.is _ c.pairs.ensures _ c.value_at.ensures _ c.in-Few.is
