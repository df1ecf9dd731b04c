use Rattle.tables.proofs.Cases.{offset-wide, offset-narrow}
use Rattle.tables.proofs.offset_at.Goals as goal

pub returns-then-t : goal.returns-then-t
returns-then-t c =
    offset-wide _ _ _ _ c.if-t.true c.eight.ensures

pub returns : goal.returns
returns c =
    offset-narrow _ _ _ _ c.if-t.false c.four.ensures
