use mathlib.Core.Path.{refl, sym, ◌∙◌}
use Prim.Native.Nat.{◌-◌}
use native.Mathlib.Omega.{arith}
use Rattle.numbers.proofs.Chain.{by-true, by-false}
use Rattle.layout.proofs.Exact.{field-there, field-lacks, cut_field, other-value, next_field, no-field-left}
use Rattle.canonical.proofs.row_is.Goals as goal
use Rattle.canonical.proofs.row_is.Goals.{else-r, else-r-2, then-r, then-r-2}

pub returns-in_default : goal.returns-in_default
returns-in_default c =
    cut_field c.args.row _ c.args.rest c.args.b.now c.loop-i.i c.loop-i.at c.loop-i.version c.loop-i.flags c.rule_of-r.result (omega (arith, c.well_formed.1.0, c.loop-i-test.true)) c.rule_of-r.ensures (field-lacks _ _ _ _ c.rule_of-r.ensures c.args.b.now c.loop-i.at _ c.number_at.ensures _ c.in_default.is) ∙ c.loop-i.invariant.0

pub returns-then-not-is_ours : goal.returns-then-not-is_ours
returns-then-not-is_ours c =
    other-value c.args.row _ c.args.rest c.args.b.now c.loop-i.i c.loop-i.at c.loop-i.version c.loop-i.flags c.rule_of-r.result (omega (arith, c.well_formed.1.0, c.loop-i-test.true)) c.rule_of-r.ensures c.in-Ok.x (field-there _ _ _ _ c.rule_of-r.ensures c.args.b.now c.loop-i.at _ c.number_at.ensures _ c.in-Ok.is).1 (field-there _ _ _ _ c.rule_of-r.ensures c.args.b.now c.loop-i.at _ c.number_at.ensures _ c.in-Ok.is).0 (sym c.is_ours.ensures ∙ c.if-not-is_ours.true) ∙ c.loop-i.invariant.0

pub loop-i-preserved : goal.loop-i-preserved
loop-i-preserved c = (
  next_field c.args.row _ c.args.rest c.args.b.now c.loop-i.i c.loop-i.at c.loop-i.version c.loop-i.flags c.rule_of-r.result (omega (arith, c.well_formed.1.0, c.loop-i-test.true)) c.rule_of-r.ensures c.in-Ok.x (field-there _ _ _ _ c.rule_of-r.ensures c.args.b.now c.loop-i.at _ c.number_at.ensures _ c.in-Ok.is).1 (field-there _ _ _ _ c.rule_of-r.ensures c.args.b.now c.loop-i.at _ c.number_at.ensures _ c.in-Ok.is).0 (sym c.is_ours.ensures ∙ c.if-not-is_ours.false) _ _
      (elim c.if-r.branch [ then-r w ↦ by-true _ _ _ _ w.if-r.true w.version-is | else-r w ↦ by-false _ _ _ _ w.if-r.false w.version-is ])
      (elim c.if-r-2.branch [ then-r-2 w ↦ by-true _ _ _ _ w.if-r-2.true w.flags-is | else-r-2 w ↦ by-false _ _ _ _ w.if-r-2.false w.flags-is ]) ∙ c.loop-i.invariant.0,
  omega (arith, (field-there _ _ _ _ c.rule_of-r.ensures c.args.b.now c.loop-i.at _ c.number_at.ensures _ c.in-Ok.is).0),
  omega arith,
)

pub returns : goal.returns
returns c =
    no-field-left c.args.row c.args.rest c.args.b.now c.loop-i.i c.loop-i.at c.loop-i.version c.loop-i.flags (omega arith) (omega arith) ∙ c.loop-i.invariant.0
