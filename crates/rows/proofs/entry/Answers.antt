use Rattle.std.specs.Prelude.{Ok, Err}
use mathlib.Core.Path.{◌≡◌, refl, sym, ap, ◌∙◌}
use Prim.Native.Nat.{◌-◌}
use native.Mathlib.Omega.{arith}
use borrow.Author.Rules.{rules}
use Rattle.std.proofs.lemmas.Result.{err_from_is_err_and}
use Rattle.numbers.specs.declared.Refusal.TheVariants as refusal
use Rattle.numbers.proofs.Chain.{by-result, there, lacks, ends, is_le}
use Rattle.rows.proofs.Cells.{narrow, cut, not-allowed, more, passed}
use Rattle.rows.proofs.entry.Goals as goal

pub returns-in_err-x : goal.returns-in_err-x
returns-in_err-x c =
    let at = c.loop-i.p in
    let s = c.args.b.now in
    let w = c.width_of-width.result in
    let told = c.in_err-x.ensures ∙ sym (is_le _ _ _ w 8 (narrow _ _ c.width_of-width.ensures) refl) in
    let h = lacks by-result w s at (Err c.in_err-x.field-0.0) told c.in_err-x.field-0.0 refl in
    let short : c.in_err-x.field-0.0 ≡ refusal.Cut at = cc (told ∙ sym (ends w s at Err Ok (Err (refusal.Cut at)) h refl)) in
    let p = err_from_is_err_and c.from_residual.result c.from_residual.ensures.1 in
    p.1 ∙ ap Err (p.2 ∙ short) ∙ cut c.args.cells _ c.args.b.now c.loop-i.i c.loop-i.p c.loop-i.rising (search rules) c.width_of-width.result c.width_of-width.ensures h ∙ c.loop-i.invariant.0

pub returns-then-not-allowed : goal.returns-then-not-allowed
returns-then-not-allowed c =
    not-allowed c.args.cells _ c.args.b.now c.loop-i.i c.loop-i.p c.loop-i.rising (search rules) c.width_of-width.result c.width_of-width.ensures c.in_ok-x.x (there by-result c.width_of-width.result c.args.b.now c.loop-i.p (Ok c.in_ok-x.x) (c.in_ok-x.ensures ∙ sym (is_le _ _ _ c.width_of-width.result 8 (narrow _ _ c.width_of-width.ensures) refl)) c.in_ok-x.x refl).0 (there by-result c.width_of-width.result c.args.b.now c.loop-i.p (Ok c.in_ok-x.x) (c.in_ok-x.ensures ∙ sym (is_le _ _ _ c.width_of-width.result 8 (narrow _ _ c.width_of-width.ensures) refl)) c.in_ok-x.x refl).1 (sym c.allowed.ensures ∙ c.if-not-allowed.true) ∙ c.loop-i.invariant.0

pub loop-i-preserved : goal.loop-i-preserved
loop-i-preserved c =
    (more c.args.cells _ c.args.b.now c.loop-i.i c.loop-i.p c.loop-i.rising (search rules) c.width_of-width.result c.width_of-width.ensures c.in_ok-x.x (there by-result c.width_of-width.result c.args.b.now c.loop-i.p (Ok c.in_ok-x.x) (c.in_ok-x.ensures ∙ sym (is_le _ _ _ c.width_of-width.result 8 (narrow _ _ c.width_of-width.ensures) refl)) c.in_ok-x.x refl).0 (there by-result c.width_of-width.result c.args.b.now c.loop-i.p (Ok c.in_ok-x.x) (c.in_ok-x.ensures ∙ sym (is_le _ _ _ c.width_of-width.result 8 (narrow _ _ c.width_of-width.ensures) refl)) c.in_ok-x.x refl).1 (sym c.allowed.ensures ∙ c.if-not-allowed.false) _ c.last_of-rising.ensures ∙ c.loop-i.invariant.0, omega arith)

pub returns : goal.returns
returns c =
    passed c.args.cells c.args.b.now c.loop-i.i c.loop-i.p c.loop-i.rising (omega arith) ∙ c.loop-i.invariant.0
