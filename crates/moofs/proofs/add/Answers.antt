use Rattle.std.specs.Prelude.{Err}
use mathlib.Core.Path.{ap, ◌∙◌}
use Rattle.std.proofs.lemmas.Result.{err_from_is_err_and}
use Rattle.kin.specs.Kin.{boxes}
use Rattle.moofs.specs.Walk.{turned}
use Rattle.moofs.proofs.Steps.{no_run, no_end, run-added}
use Rattle.moofs.proofs.add.Goals as goal

pub returns-in_err-run : goal.returns-in_err-run
returns-in_err-run c =
    let p = err_from_is_err_and c.from_residual.result c.from_residual.ensures.1 in
    ap (λ r. turned r c.args.runs.now c.args.moofs.now) (p.1 ∙ ap Err p.2)
    ∙ no_run c.args.s.now (boxes c.args.starts.now c.args.sizes.now c.args.kinds.now c.args.parents.now c.args.placed.now) c.args.n c.args.j c.args.state c.args.runs.now c.args.moofs.now _ c.run.ensures _ c.in_err-run.was

pub returns-in_default : goal.returns-in_default
returns-in_default c =
    no_end c.args.s.now (boxes c.args.starts.now c.args.sizes.now c.args.kinds.now c.args.parents.now c.args.placed.now) c.args.n c.args.j c.args.state c.args.runs.now c.args.moofs.now _ c.run.ensures _ c.in_ok-run.was _ c.end.ensures c.in_default.is

pub returns : goal.returns
returns c =
    run-added c.args.s.now (boxes c.args.starts.now c.args.sizes.now c.args.kinds.now c.args.parents.now c.args.placed.now) c.args.n c.args.j c.args.state c.args.runs.now c.args.moofs.now _ c.run.ensures _ c.in_ok-run.was _ c.end.ensures _ _ _ c.in-Some.is c.store.ensures
