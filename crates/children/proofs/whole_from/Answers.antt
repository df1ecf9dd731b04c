use Prim.Native.Nat.{◌-◌}
use mathlib.Core.Path.{refl, sym, ap, ◌∙◌}
use Rattle.std.specs.Prelude.{Err}
use Rattle.std.proofs.lemmas.Result.{err_from_is_err_and}
use native.Mathlib.Omega.{arith}
use lib.ListN.{length}
use Rattle.boxes.proofs.Within.{header-within}
use Rattle.children.proofs.Turns.{whole-fault, one-whole, all_whole}
use Rattle.children.proofs.whole_from.Goals as goal

pub returns-in_err-h : goal.returns-in_err-h
returns-in_err-h c =
    let p = err_from_is_err_and c.from_residual.result c.from_residual.ensures.1 in
    p.1 ∙ ap Err p.2 ∙ whole-fault c.args.s.now c.loop-at.invariant.0 c.loop-at.at c.loop-at-test.true c.loop-at.invariant.1 _ (sym c.in_err-h.ensures) ∙ c.loop-at.invariant.2

pub loop-at-preserved : goal.loop-at-preserved
loop-at-preserved c =
    one-whole c.args.s.now c.loop-at.invariant.0 c.loop-at.at c.loop-at-test.true c.loop-at.invariant.1 c.in_ok-h.h (sym c.in_ok-h.ensures) _ c.loop-at.invariant.2

pub returns : goal.returns
returns c =
    all_whole c.args.s.now c.loop-at.invariant.0 c.loop-at.at (omega arith) ∙ c.loop-at.invariant.2
