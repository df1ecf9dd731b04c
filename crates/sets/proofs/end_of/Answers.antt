use Rattle.std.specs.Prelude.{Err}
use mathlib.Core.Path.{sym, ap, ◌∙◌}
use native.Mathlib.Omega.{arith}
use Rattle.std.proofs.lemmas.Result.{err_from_is_err_and}
use Rattle.sets.proofs.Cases.{stopped, stepped, none_left}
use Rattle.sets.proofs.end_of.Goals as goal

pub returns-in_err-p : goal.returns-in_err-p
returns-in_err-p c =
    let p = err_from_is_err_and c.from_residual.result c.from_residual.ensures.1 in
    p.1 ∙ ap Err p.2 ∙ stopped c.args.s.now c.loop-left.p c.loop-left.left _ c.loop-left-test.true (sym c.in_err-p.ensures.value) ∙ c.loop-left.invariant

pub loop-left-preserved : goal.loop-left-preserved
loop-left-preserved c =
    stepped c.args.s.now c.loop-left.p c.loop-left.left _ c.loop-left-test.true (sym c.in_ok-p.ensures.value) ∙ c.loop-left.invariant

pub returns : goal.returns
returns c =
    none_left c.args.s.now c.loop-left.p c.loop-left.left (omega (arith, c.loop-left-test.false)) ∙ c.loop-left.invariant
