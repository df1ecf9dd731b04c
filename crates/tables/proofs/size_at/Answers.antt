use Rattle.tables.proofs.Cases.{size-listed, size-common}
use Rattle.tables.proofs.size_at.Goals as goal

pub returns-then-t-eq0 : goal.returns-then-t-eq0
returns-then-t-eq0 c =
    size-listed _ _ _ _ c.if-t-eq0.true c.four.ensures

pub returns : goal.returns
returns c =
    size-common _ _ _ c.if-t-eq0.false
