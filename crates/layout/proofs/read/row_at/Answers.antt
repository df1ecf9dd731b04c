use Rattle.std.specs.Prelude.{Ok, Err}
use mathlib.Core.Path.{◌≡◌, refl, sym, ap, ◌∙◌}
use Prim.Native.Nat.{◌-◌}
use native.Mathlib.Omega.{arith}
use lib.ListN.{length, length-set}
use Rattle.std.proofs.lemmas.Result.{err_from_is_err_and}
use Rattle.numbers.specs.declared.Refusal.TheVariants as refusal
use Rattle.numbers.proofs.Chain.{by-result, there, lacks, ends, is_le, by-true, by-false}
use Rattle.layout.proofs.Cases.{width_of, short, low, high, more, all}
use Rattle.layout.proofs.read.row_at.Goals as goal
use Rattle.layout.proofs.read.row_at.Goals.{else-r, else-r-2, else-r-3, then-r, then-r-2, then-r-3}

pub returns-in_err-x : goal.returns-in_err-x
returns-in_err-x c =
    let at = c.loop-i.at in
    let s = c.args.b.now in
    let w = c.rule_of-r.result.width in
    let told = c.in_err-x.ensures ∙ sym (is_le _ _ _ w 8 (width_of _ _ _ _ c.rule_of-r.ensures) refl) in
    let h = lacks by-result w s at (Err c.in_err-x.field-0.0) told c.in_err-x.field-0.0 refl in
    let cut : c.in_err-x.field-0.0 ≡ refusal.Cut at = cc (told ∙ sym (ends w s at Err Ok (Err (refusal.Cut at)) h refl)) in
    let p = err_from_is_err_and c.from_residual.result c.from_residual.ensures.1 in
    p.1 ∙ ap Err (p.2 ∙ cut) ∙ short c.args.row _ (length c.args.b.now) c.args.b.now c.loop-i.i c.loop-i.at c.loop-i.version c.loop-i.flags c.loop-i.values c.loop-i.slot c.rule_of-r.result (omega (arith, c.well_formed.1.0, c.loop-i-test.true)) c.rule_of-r.ensures h ∙ c.loop-i.invariant.0

pub returns-then-x-r : goal.returns-then-x-r
returns-then-x-r c =
    ap Err c.refusal.ensures ∙ low c.args.row _ (length c.args.b.now) c.args.b.now c.loop-i.i c.loop-i.at c.loop-i.version c.loop-i.flags c.loop-i.values c.loop-i.slot c.rule_of-r.result (omega (arith, c.well_formed.1.0, c.loop-i-test.true)) c.rule_of-r.ensures c.in_ok-x.x (there by-result c.rule_of-r.result.width c.args.b.now c.loop-i.at (Ok c.in_ok-x.x) (c.in_ok-x.ensures ∙ sym (is_le _ _ _ c.rule_of-r.result.width 8 (width_of _ _ _ _ c.rule_of-r.ensures) refl)) c.in_ok-x.x refl).0 (there by-result c.rule_of-r.result.width c.args.b.now c.loop-i.at (Ok c.in_ok-x.x) (c.in_ok-x.ensures ∙ sym (is_le _ _ _ c.rule_of-r.result.width 8 (width_of _ _ _ _ c.rule_of-r.ensures) refl)) c.in_ok-x.x refl).1 c.if-x-r.true ∙ c.loop-i.invariant.0

pub returns-then-r-x : goal.returns-then-r-x
returns-then-r-x c =
    ap Err c.refusal-then-r-x.ensures ∙ high c.args.row _ (length c.args.b.now) c.args.b.now c.loop-i.i c.loop-i.at c.loop-i.version c.loop-i.flags c.loop-i.values c.loop-i.slot c.rule_of-r.result (omega (arith, c.well_formed.1.0, c.loop-i-test.true)) c.rule_of-r.ensures c.in_ok-x.x (there by-result c.rule_of-r.result.width c.args.b.now c.loop-i.at (Ok c.in_ok-x.x) (c.in_ok-x.ensures ∙ sym (is_le _ _ _ c.rule_of-r.result.width 8 (width_of _ _ _ _ c.rule_of-r.ensures) refl)) c.in_ok-x.x refl).0 (there by-result c.rule_of-r.result.width c.args.b.now c.loop-i.at (Ok c.in_ok-x.x) (c.in_ok-x.ensures ∙ sym (is_le _ _ _ c.rule_of-r.result.width 8 (width_of _ _ _ _ c.rule_of-r.ensures) refl)) c.in_ok-x.x refl).1 c.if-x-r.false c.if-r-x.true ∙ c.loop-i.invariant.0

pub loop-i-preserved : goal.loop-i-preserved
loop-i-preserved c = (
  more c.args.row _ (length c.args.b.now) c.args.b.now c.loop-i.i c.loop-i.at c.loop-i.version c.loop-i.flags c.loop-i.values c.loop-i.slot c.rule_of-r.result (omega (arith, c.well_formed.1.0, c.loop-i-test.true)) c.rule_of-r.ensures c.in_ok-x.x (there by-result c.rule_of-r.result.width c.args.b.now c.loop-i.at (Ok c.in_ok-x.x) (c.in_ok-x.ensures ∙ sym (is_le _ _ _ c.rule_of-r.result.width 8 (width_of _ _ _ _ c.rule_of-r.ensures) refl)) c.in_ok-x.x refl).0 (there by-result c.rule_of-r.result.width c.args.b.now c.loop-i.at (Ok c.in_ok-x.x) (c.in_ok-x.ensures ∙ sym (is_le _ _ _ c.rule_of-r.result.width 8 (width_of _ _ _ _ c.rule_of-r.ensures) refl)) c.in_ok-x.x refl).1 c.if-x-r.false c.if-r-x.false _ _ _ _
      (elim c.if-r.branch [ then-r w ↦ by-true _ _ _ _ w.if-r.true w.values-is | else-r w ↦ by-false _ _ _ _ w.if-r.false w.values-is ])
      (elim c.if-r.branch [ then-r w ↦ by-true _ _ _ _ w.if-r.true w.slot-is | else-r w ↦ by-false _ _ _ _ w.if-r.false w.slot-is ])
      (elim c.if-r-2.branch [ then-r-2 w ↦ by-true _ _ _ _ w.if-r-2.true w.version-is | else-r-2 w ↦ by-false _ _ _ _ w.if-r-2.false w.version-is ])
      (elim c.if-r-3.branch [ then-r-3 w ↦ by-true _ _ _ _ w.if-r-3.true w.flags-is | else-r-3 w ↦ by-false _ _ _ _ w.if-r-3.false w.flags-is ]) ∙ c.loop-i.invariant.0,
  omega (arith, (there by-result c.rule_of-r.result.width c.args.b.now c.loop-i.at (Ok c.in_ok-x.x) (c.in_ok-x.ensures ∙ sym (is_le _ _ _ c.rule_of-r.result.width 8 (width_of _ _ _ _ c.rule_of-r.ensures) refl)) c.in_ok-x.x refl).0),
  elim c.if-r.branch [ then-r w ↦ omega arith | else-r w ↦ omega arith ],
  omega arith,
  elim c.if-r.branch [ then-r w ↦ ap length w.values-is ∙ simp length-set c.loop-i.invariant.4 | else-r w ↦ ap length w.values-is ∙ c.loop-i.invariant.4 ],
)

pub returns : goal.returns
returns c =
    all c.args.row (length c.args.b.now) c.args.b.now c.loop-i.i c.loop-i.at c.loop-i.version c.loop-i.flags c.loop-i.values c.loop-i.slot (omega arith) ∙ c.loop-i.invariant.0
