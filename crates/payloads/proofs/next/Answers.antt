use mathlib.Core.Path.{refl, ap, ◌∙◌}
use Prim.Native.Nat.{◌-◌}
use Rattle.kin.specs.Kin.{boxes}
use Rattle.payloads.specs.Payloads.{next_in}
use Rattle.payloads.proofs.Steps.{over, here, further}
use Rattle.payloads.proofs.next.Goals as goal

pub returns-then-is_media : goal.returns-then-is_media
returns-then-is_media c =
    here _ _ _ _ _ c.loop-j-test.true c.is_media.ensures _ _ c.if-is_media.true c.from.ensures c.to.ensures ∙ c.loop-j.invariant ∙ ap (λ k. next_in c.args.s.now (boxes c.args.starts.now c.args.sizes.now c.args.kinds.now c.args.parents.now c.args.placed.now) (k - c.args.i) c.args.i) c.rows-end.ensures

pub loop-j-preserved : goal.loop-j-preserved
loop-j-preserved c =
    further _ _ _ _ _ c.loop-j-test.true c.is_media.ensures c.if-is_media.false ∙ c.loop-j.invariant

pub returns : goal.returns
returns c =
    over _ _ _ _ c.loop-j-test.false ∙ c.loop-j.invariant ∙ ap (λ k. next_in c.args.s.now (boxes c.args.starts.now c.args.sizes.now c.args.kinds.now c.args.parents.now c.args.placed.now) (k - c.args.i) c.args.i) c.rows-end.ensures
