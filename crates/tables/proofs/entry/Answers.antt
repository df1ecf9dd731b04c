use native.Mathlib.Omega.{arith}
use Rattle.tables.proofs.Cases.{row-pair, row-group}
use Rattle.tables.proofs.entry.Goals as goal

pub returns-then-end-first : goal.returns-then-end-first
returns-then-end-first c =
    row-group _ _ _ _ _ _ _ c.if-rows.true c.four-first.ensures c.four-per.ensures c.end_of-end.ensures (omega arith)

pub returns-then-rows : goal.returns-then-rows
returns-then-rows c =
    row-group _ _ _ _ _ _ _ c.if-rows.true c.four-first.ensures c.four-per.ensures c.end_of-end.ensures (omega arith)

pub returns : goal.returns
returns c =
    row-pair _ _ _ _ _ c.if-rows.false c.four-count.ensures c.four-value.ensures
