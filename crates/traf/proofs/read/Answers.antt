use Rattle.std.proofs.lemmas.Result.{err_from_is_err_and}
use Rattle.std.specs.Prelude.{Err}
use mathlib.Core.Path.{refl, ap, ◌∙◌}
use Rattle.rounds.proofs.JudgedBoxes.{settles, unsettles}
use Rattle.traf.proofs.read.Goals as goal

pub returns-in_err-whole : goal.returns-in_err-whole
returns-in_err-whole c =
    let p = err_from_is_err_and c.from_residual.result c.from_residual.ensures.1 in
    p.1 ∙ ap Err p.2 ∙ unsettles _ _ _ _ c.whole.ensures _ c.in_err-whole.was _ refl

pub returns : goal.returns
returns c =
    settles _ _ _ _ c.whole.ensures c.in_ok-whole.was _ cc
