use Prim.Native.Nat.{◌-◌}
use mathlib.Core.Path.{refl, sym, ap, ◌∙◌}
use Rattle.std.specs.Prelude.{Err}
use Rattle.std.proofs.lemmas.Result.{err_from_is_err_and}
use native.Mathlib.Omega.{arith}
use lib.ListN.{length}
use Rattle.boxes.proofs.Within.{header-within}
use Rattle.children.proofs.Turns.{nth-fault, is-nth, not-nth, none-nth}
use Rattle.boxparts.proofs.nth_place.Goals as goal

pub returns-in_err-h : goal.returns-in_err-h
returns-in_err-h c =
    let p = err_from_is_err_and c.from_residual.result c.from_residual.ensures.1 in
    p.1 ∙ ap Err p.2 ∙ nth-fault c.args.s.now c.loop-place.invariant.0 c.loop-place.place c.loop-place-test.true c.loop-place.invariant.1 c.loop-place.left _ (sym c.in_err-h.ensures) ∙ c.loop-place.invariant.2

pub returns-then-left-eq0 : goal.returns-then-left-eq0
returns-then-left-eq0 c =
    is-nth c.args.s.now c.loop-place.invariant.0 c.loop-place.place c.loop-place-test.true c.loop-place.invariant.1 c.loop-place.left c.in_ok-h.h (sym c.in_ok-h.ensures) c.if-left-eq0.true ∙ c.loop-place.invariant.2

pub loop-place-preserved : goal.loop-place-preserved
loop-place-preserved c =
    not-nth c.args.s.now c.loop-place.invariant.0 c.loop-place.place c.loop-place-test.true c.loop-place.invariant.1 c.loop-place.left c.in_ok-h.h (sym c.in_ok-h.ensures) c.if-left-eq0.false _ c.loop-place.invariant.2

pub returns : goal.returns
returns c =
    none-nth c.args.s.now c.loop-place.invariant.0 c.loop-place.place c.loop-place.left (omega arith) ∙ c.loop-place.invariant.2
