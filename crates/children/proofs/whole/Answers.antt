use mathlib.Core.Path.{sym, ap, ◌∙◌}
use Rattle.std.specs.Prelude.{Err}
use Rattle.std.proofs.lemmas.Result.{err_from_is_err_and}
use lib.Seq.{length-take-le}
use Rattle.layout.proofs.Rests.{end-in}
use Rattle.children.specs.Children.{whole_in, inside, fields}
use Rattle.children.proofs.whole.Goals as goal

pub returns-in_err-got : goal.returns-in_err-got
unfolding whole_in
returns-in_err-got c =
    let p = err_from_is_err_and c.from_residual.result c.from_residual.ensures.1 in
    p.1 ∙ ap Err p.2 ∙ ap (λ r. whole_in (inside c.args.part.now r)) c.in_err-got.ensures
