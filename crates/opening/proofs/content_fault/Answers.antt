use Rattle.std.specs.Prelude.{Err}
use Rattle.std.proofs.lemmas.Result.{err_from_is_err_and}
use mathlib.Core.Path.{refl, ◌∙◌, ap}
use Prim.Native.Nat.{◌-◌}
use Rattle.kin.specs.Kin.{boxes}
use Rattle.opening.proofs.Steps.{over, here, further, from_first}
use Rattle.opening.proofs.content_fault.Goals as goal

pub returns-in_err-fault : goal.returns-in_err-fault
returns-in_err-fault c =
    let p = err_from_is_err_and c.from_residual.result c.from_residual.ensures.1 in
    p.1 ∙ ap Err p.2 ∙ here c.args.s.now (boxes c.args.starts.now c.args.sizes.now c.args.kinds.now c.args.parents.now c.args.placed.now) c.args.n _ _ c.loop-i-test.true _ c.fault.ensures _ c.in_err-fault.was ∙ c.loop-i.invariant ∙ from_first c.args.s.now (boxes c.args.starts.now c.args.sizes.now c.args.kinds.now c.args.parents.now c.args.placed.now) c.args.n _ _ c.rows-end.ensures

pub loop-i-preserved : goal.loop-i-preserved
loop-i-preserved c =
    further c.args.s.now (boxes c.args.starts.now c.args.sizes.now c.args.kinds.now c.args.parents.now c.args.placed.now) c.args.n _ _ c.loop-i-test.true _ c.fault.ensures c.in_ok-fault.was ∙ c.loop-i.invariant

pub returns : goal.returns
returns c =
    over c.args.s.now (boxes c.args.starts.now c.args.sizes.now c.args.kinds.now c.args.parents.now c.args.placed.now) c.args.n _ _ c.loop-i-test.false ∙ c.loop-i.invariant ∙ from_first c.args.s.now (boxes c.args.starts.now c.args.sizes.now c.args.kinds.now c.args.parents.now c.args.placed.now) c.args.n _ _ c.rows-end.ensures
