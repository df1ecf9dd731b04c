use mathlib.Core.Path.{ap, ◌∙◌}
use Rattle.std.specs.Prelude.{Err}
use Rattle.std.proofs.lemmas.Result.{err_from_is_err_and}
use Rattle.samples.specs.Records.{output}
use Rattle.opened.proofs.Told.{tables-refused, by-tables}
use Rattle.opened.proofs.by_tables.Goals as goal

pub returns-in_err-tables : goal.returns-in_err-tables
returns-in_err-tables c =
    let p = err_from_is_err_and c.from_residual.result c.from_residual.ensures.1 in
    tables-refused _ _ _ _ _ _ _ _ _ _ c.tables.ensures _ c.in_err-tables.was (ap (λ r. output r c.args.out.now) (p.1 ∙ ap Err p.2))

pub returns : goal.returns
returns c =
    by-tables _ _ _ _ _ _ _ _ _ _ c.tables.ensures _ c.in_ok-tables.was _ c.number-number.ensures _ c.part.ensures c.answer.ensures
