use Rattle.std.specs.Prelude.{Err}
use mathlib.Core.Path.{ap, ◌∙◌}
use Rattle.std.proofs.lemmas.Result.{err_from_is_err_and}
use Rattle.kin.specs.Kin.{boxes}
use Rattle.moofs.specs.Moofs.{fragments_of, output}
use Rattle.moofs.proofs.Filling.{fill-refused, small-runs, small-moofs, fills}
use Rattle.moofs.proofs.fill.Goals as goal

pub returns-in_err-filled : goal.returns-in_err-filled
returns-in_err-filled c =
    let p = err_from_is_err_and c.from_residual.result c.from_residual.ensures.1 in
    ap (λ r. output r c.args.runs.now c.args.moofs.now) (p.1 ∙ ap Err p.2)
    ∙ fill-refused c.args.runs.now c.args.moofs.now (fragments_of c.args.s.now (boxes c.args.starts.now c.args.sizes.now c.args.kinds.now c.args.parents.now c.args.placed.now) c.args.n) _ _ c.count.ensures c.in_err-filled.was

pub returns-then-runs-filled : goal.returns-then-runs-filled
returns-then-runs-filled c =
    small-runs c.args.runs.now c.args.moofs.now c.in_ok-filled.filled (fragments_of c.args.s.now (boxes c.args.starts.now c.args.sizes.now c.args.kinds.now c.args.parents.now c.args.placed.now) c.args.n) _ c.count.ensures c.in_ok-filled.was c.if-runs-filled.true

pub returns-then-moofs-filled : goal.returns-then-moofs-filled
returns-then-moofs-filled c =
    small-moofs c.args.runs.now c.args.moofs.now c.in_ok-filled.filled (fragments_of c.args.s.now (boxes c.args.starts.now c.args.sizes.now c.args.kinds.now c.args.parents.now c.args.placed.now) c.args.n) _ c.count.ensures c.in_ok-filled.was c.if-runs-filled.false c.if-moofs-filled.true

pub returns : goal.returns
returns c =
    fills c.args.runs.now c.args.moofs.now c.in_ok-filled.filled (fragments_of c.args.s.now (boxes c.args.starts.now c.args.sizes.now c.args.kinds.now c.args.parents.now c.args.placed.now) c.args.n) _ _ _ _ c.count.ensures c.in_ok-filled.was c.if-runs-filled.false c.if-moofs-filled.false c.walk.ensures.count c.walk.ensures.tables
