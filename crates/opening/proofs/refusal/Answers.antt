use mathlib.Core.Path.{ap, ◌∙◌}
use Rattle.std.specs.Prelude.{Err}
use Rattle.std.proofs.lemmas.Result.{err_from_is_err_and}
use Rattle.kin.specs.Kin.{boxes}
use Rattle.opening.proofs.Steps.{faulty, faultless}
use Rattle.opening.proofs.refusal.Goals as goal

pub returns-in_err-content_fault : goal.returns-in_err-content_fault
returns-in_err-content_fault c =
    let p = err_from_is_err_and c.from_residual.result c.from_residual.ensures.1 in
    p.1 ∙ ap Err p.2 ∙ faulty c.args.s.now (boxes c.args.starts.now c.args.sizes.now c.args.kinds.now c.args.parents.now c.args.placed.now) c.args.scanned _ _ c.recorded-n.ensures c.content_fault.ensures _ c.in_err-content_fault.was

pub returns : goal.returns
returns c =
    faultless c.args.s.now (boxes c.args.starts.now c.args.sizes.now c.args.kinds.now c.args.parents.now c.args.placed.now) c.args.scanned _ _ c.recorded-n.ensures c.content_fault.ensures _ c.in_ok-content_fault.was c.rest.ensures
