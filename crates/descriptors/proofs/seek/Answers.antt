use Prim.Native.Nat.{◌-◌}
use Rattle.std.specs.Prelude.{Err}
use mathlib.Core.Path.{refl, sym, ap, ◌∙◌}
use mathlib.Core.Logic.{⊎_elim}
use native.Mathlib.Omega.{arith}
use lib.ListN.{length}
use Rattle.std.proofs.lemmas.Result.{err_from_is_err_and}
use Rattle.descriptors.proofs.Walk.{spent, fault, is_one, is-other, is_none}
use Rattle.descriptor.proofs.Laws.{headed}
use Rattle.descriptors.proofs.seek.Goals as goal
use Rattle.descriptors.proofs.seek.Goals.{then-tag-one-via-then-tag-one, then-tag-one-via-else-tag-one+then-tag-other}

pub loop-p-init : goal.loop-p-init
loop-p-init c =
    (length c.args.s.now, omega arith, refl)

pub returns-in_err-tag : goal.returns-in_err-tag
returns-in_err-tag c =
    let p = err_from_is_err_and c.from_residual.result c.from_residual.ensures.1 in
    p.1 ∙ ap Err p.2 ∙ fault c.args.s.now c.args.one c.args.other c.loop-p.invariant.0 c.loop-p.p c.loop-p-test.true c.loop-p.invariant.1 _ (sym c.in_err-tag.ensures) ∙ c.loop-p.invariant.2

pub returns-then-tag-one : goal.returns-then-tag-one
returns-then-tag-one c =
    let h = c.in_ok-tag.field-0 in
    elim c.then-tag-one.branch [
      | then-tag-one-via-then-tag-one w ↦
          is_one c.args.s.now c.args.one c.args.other c.loop-p.invariant.0 c.loop-p.p c.loop-p-test.true c.loop-p.invariant.1 h.tag h.from h.to (sym c.in_ok-tag.ensures) w.if-tag-one.true
          ∙ c.loop-p.invariant.2
      | then-tag-one-via-else-tag-one+then-tag-other w ↦
          is-other c.args.s.now c.args.one c.args.other c.loop-p.invariant.0 c.loop-p.p c.loop-p-test.true c.loop-p.invariant.1 h.tag h.from h.to (sym c.in_ok-tag.ensures) w.if-tag-one.false w.if-tag-other.true
          ∙ c.loop-p.invariant.2
    ]

pub loop-p-smaller : goal.loop-p-smaller
loop-p-smaller c =
    let h = c.in_ok-tag.field-0 in
    let w = headed c.args.s.now c.loop-p.p h.tag h.from h.to (sym c.in_ok-tag.ensures) in
    omega (arith, w.before, w.content, c.loop-p-test.true)

pub loop-p-preserved : goal.loop-p-preserved
loop-p-preserved c =
    let h = c.in_ok-tag.field-0 in
    is_none c.args.s.now c.args.one c.args.other c.loop-p.invariant.0 c.loop-p.p c.loop-p-test.true c.loop-p.invariant.1 h.tag h.from h.to (sym c.in_ok-tag.ensures) c.if-tag-one.false c.if-tag-other.false _ c.loop-p.invariant.2

pub returns : goal.returns
returns c =
    sym (spent c.args.s.now c.args.one c.args.other c.loop-p.invariant.0 c.loop-p.p (omega (arith, c.loop-p-test.false))) ∙ c.loop-p.invariant.2
