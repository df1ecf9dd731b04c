use Rattle.tables.proofs.Cases.{end-next, end-last}
use Rattle.tables.proofs.end_of.Goals as goal

pub returns-then-i-rows : goal.returns-then-i-rows
returns-then-i-rows c =
    end-next _ _ _ _ c.if-i-rows.true c.four.ensures

pub returns : goal.returns
returns c =
    end-last _ _ _ c.if-i-rows.false
