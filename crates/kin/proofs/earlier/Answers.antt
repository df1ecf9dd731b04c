use mathlib.Core.Path.{◌≡◌, sym, ap, ap₂, ◌∙◌}
use Prim.Native.Nat.{ℕ, ◌+◌, ◌-◌}
use native.Mathlib.Omega.{arith}
use Rattle.kin.specs.Before.{sum}
use Rattle.kin.specs.Kin.{boxes, stands, one}
use Rattle.kin.proofs.Befores.{sum-none, sum-next}
use Rattle.kin.proofs.Kins.{one-most}
use Rattle.kin.proofs.earlier.Goals as goal

pub loop-j-init : goal.loop-j-init
loop-j-init c =
    (omega arith, omega arith, sym (sum-none (λ k. one (stands (boxes c.args.starts.now c.args.sizes.now c.args.kinds.now c.args.parents.now c.args.placed.now) c.args.kind k))))

pub loop-j-preserved : goal.loop-j-preserved
loop-j-preserved c =
    (omega arith, omega (arith, one-most (stands (boxes c.args.starts.now c.args.sizes.now c.args.kinds.now c.args.parents.now c.args.placed.now) c.args.kind c.loop-j.j), c.one-n.ensures, ap one c.stands.ensures), ap₂ (λ (n k : ℕ). n + k) c.loop-j.invariant.2 (c.one-n.ensures ∙ ap one c.stands.ensures) ∙ sym (sum-next (λ k. one (stands (boxes c.args.starts.now c.args.sizes.now c.args.kinds.now c.args.parents.now c.args.placed.now) c.args.kind k)) c.loop-j.j))
