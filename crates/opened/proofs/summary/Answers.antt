use mathlib.Core.Path.{ap, ◌∙◌}
use Rattle.std.specs.Prelude.{Err}
use Rattle.std.proofs.lemmas.Result.{err_from_is_err_and}
use Rattle.samples.specs.Records.{output}
use Rattle.opened.proofs.Told.{count-refused, total-refused, figured}
use Rattle.opened.proofs.summary.Goals as goal

pub returns-in_err-count : goal.returns-in_err-count
returns-in_err-count c =
    let p = err_from_is_err_and c.from_residual.result c.from_residual.ensures.1 in
    count-refused _ _ _ _ _ c.count.ensures _ c.in_err-count.was (ap (λ r. output r c.args.out.now) (p.1 ∙ ap Err p.2))

pub returns-in_err-total : goal.returns-in_err-total
returns-in_err-total c =
    let p = err_from_is_err_and c.from_residual-in_err-total.result c.from_residual-in_err-total.ensures.1 in
    total-refused _ _ _ _ _ c.count.ensures _ c.in_ok-count.was _ c.total.ensures _ c.in_err-total.was (ap (λ r. output r c.args.out.now) (p.1 ∙ ap Err p.2))

pub returns : goal.returns
returns c =
    figured _ _ _ _ _ c.count.ensures _ c.in_ok-count.was _ c.total.ensures _ c.in_ok-total.was c.of.ensures
