use mathlib.Core.Path.{refl, ap, ◌∙◌}
use Prim.Native.Nat.{◌-◌}
use Rattle.kin.specs.Kin.{boxes}
use Rattle.verdicts.specs.Sweep.{in_some}
use Rattle.payloads.specs.Payloads.{payloads_in}
use Rattle.payloads.proofs.Steps.{in-none, in-here, in-further}
use Rattle.payloads.proofs.holds.Goals as goal

pub returns-then-holds_at : goal.returns-then-holds_at
returns-then-holds_at c =
    in-here _ _ _ _ _ _ c.loop-j-test.true c.holds_at.ensures c.if-holds_at.true ∙ c.loop-j.invariant ∙ ap (λ k. in_some c.args.b (payloads_in c.args.s.now (boxes c.args.starts.now c.args.sizes.now c.args.kinds.now c.args.parents.now c.args.placed.now) (k - 0) 0)) c.rows-end.ensures

pub loop-j-preserved : goal.loop-j-preserved
loop-j-preserved c =
    in-further _ _ _ _ _ _ c.loop-j-test.true c.holds_at.ensures c.if-holds_at.false ∙ c.loop-j.invariant

pub returns : goal.returns
returns c =
    in-none _ _ _ _ _ c.loop-j-test.false ∙ c.loop-j.invariant ∙ ap (λ k. in_some c.args.b (payloads_in c.args.s.now (boxes c.args.starts.now c.args.sizes.now c.args.kinds.now c.args.parents.now c.args.placed.now) (k - 0) 0)) c.rows-end.ensures
