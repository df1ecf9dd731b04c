use Rattle.std.specs.Prelude.{Ok, Err}
use Prim.Native.Nat.{◌-◌}
use mathlib.Core.Path.{refl, sym, ap, ◌∙◌}
use native.Mathlib.Omega.{arith}
use Rattle.std.proofs.lemmas.Result.{err_from_is_err_and}
use Rattle.rows.specs.Rows.{step, entries_of}
use Rattle.rows.proofs.Cells.{none_left, next-entry}
use Rattle.rows.proofs.judge.Goals as goal

pub returns-in_err-next : goal.returns-in_err-next
returns-in_err-next c =
    let p = err_from_is_err_and c.from_residual.result c.from_residual.ensures.1 in
    p.1 ∙ ap Err p.2 ∙ next-entry c.args.cells c.args.b.now c.loop-left.p c.loop-left.last c.loop-left.left c.loop-left-test.true (Err c.in_err-next.field-0.0) c.in_err-next.ensures ∙ c.loop-left.invariant

pub loop-left-preserved : goal.loop-left-preserved
loop-left-preserved c =
    next-entry c.args.cells c.args.b.now c.loop-left.p c.loop-left.last c.loop-left.left c.loop-left-test.true _ c.in_ok-next.ensures ∙ c.loop-left.invariant

pub returns : goal.returns
returns c =
    none_left c.args.cells c.args.b.now c.loop-left.p c.loop-left.last c.loop-left.left (omega arith) ∙ c.loop-left.invariant
