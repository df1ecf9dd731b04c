use Prim.Native.Nat.{◌-◌}
use mathlib.Core.Path.{refl, sym, ap, ◌∙◌}
use Rattle.std.specs.Prelude.{Err}
use Rattle.std.proofs.lemmas.Result.{err_from_is_err_and}
use native.Mathlib.Omega.{arith}
use lib.ListN.{length}
use Rattle.boxes.proofs.Within.{header-within}
use Rattle.children.proofs.Turns.{first-fault, is-first, not_first, none_first}
use Rattle.children.proofs.first_from.Goals as goal

pub returns-in_err-h : goal.returns-in_err-h
returns-in_err-h c =
    let p = err_from_is_err_and c.from_residual.result c.from_residual.ensures.1 in
    p.1 ∙ ap Err p.2 ∙ first-fault c.args.s.now c.loop-at.invariant.0 c.loop-at.at c.loop-at-test.true c.loop-at.invariant.1 c.args.kind _ (sym c.in_err-h.ensures) ∙ c.loop-at.invariant.2

pub returns-then-h-kind : goal.returns-then-h-kind
returns-then-h-kind c =
    is-first c.args.s.now c.loop-at.invariant.0 c.loop-at.at c.loop-at-test.true c.loop-at.invariant.1 c.args.kind c.in_ok-h.h (sym c.in_ok-h.ensures) c.if-h-kind.true ∙ c.loop-at.invariant.2

pub loop-at-preserved : goal.loop-at-preserved
loop-at-preserved c =
    not_first c.args.s.now c.loop-at.invariant.0 c.loop-at.at c.loop-at-test.true c.loop-at.invariant.1 c.args.kind c.in_ok-h.h (sym c.in_ok-h.ensures) c.if-h-kind.false _ c.loop-at.invariant.2

pub returns : goal.returns
returns c =
    none_first c.args.s.now c.loop-at.invariant.0 c.loop-at.at c.args.kind (omega arith) ∙ c.loop-at.invariant.2
