use mathlib.Core.Path.{refl, ap, ◌∙◌}
use Prim.Native.Nat.{◌-◌}
use Rattle.kin.specs.Kin.{boxes}
use Rattle.inside.specs.Inside.{next_in}
use Rattle.inside.proofs.Steps.{over, here, further}
use Rattle.inside.proofs.next.Goals as goal

pub returns-then-in_parent : goal.returns-then-in_parent
returns-then-in_parent c =
    here _ _ _ _ _ _ c.loop-j-test.true c.in_parent.ensures c.if-in_parent.true ∙ c.loop-j.invariant ∙ ap (λ k. next_in (boxes c.args.starts.now c.args.sizes.now c.args.kinds.now c.args.parents.now c.args.placed.now) c.args.kind c.args.p (k - c.args.from) c.args.from) c.rows-end.ensures

pub loop-j-preserved : goal.loop-j-preserved
loop-j-preserved c =
    further _ _ _ _ _ _ c.loop-j-test.true c.in_parent.ensures c.if-in_parent.false ∙ c.loop-j.invariant

pub returns : goal.returns
returns c =
    over _ _ _ _ _ c.loop-j-test.false ∙ c.loop-j.invariant ∙ ap (λ k. next_in (boxes c.args.starts.now c.args.sizes.now c.args.kinds.now c.args.parents.now c.args.placed.now) c.args.kind c.args.p (k - c.args.from) c.args.from) c.rows-end.ensures
