use mathlib.Core.Path.{◌≡◌, sym, ap, ◌∙◌}
use mathlib.Core.Bool.{false, ◌&&◌}
use Prim.Native.Nat.{◌-◌}
use native.Mathlib.Omega.{arith}
use Rattle.kin.specs.Before.{some}
use Rattle.kin.specs.Kin.{boxes, stands}
use Rattle.contents.specs.Held.{key_at, is}
use Rattle.kin.proofs.Befores.{some-none, some_next, some_at}
use Rattle.contents.proofs.held.used.Goals as goal

pub loop-j-init : goal.loop-j-init
loop-j-init c =
    (omega arith, some-none (λ j. ◌&&◌ (stands (boxes c.args.starts.now c.args.sizes.now c.args.kinds.now c.args.parents.now c.args.placed.now) c.args.kind j) (is (key_at c.args.s.now (boxes c.args.starts.now c.args.sizes.now c.args.kinds.now c.args.parents.now c.args.placed.now) j) c.args.x)))

pub returns-then-has_number : goal.returns-then-has_number
returns-then-has_number c =
    some_at (λ j. ◌&&◌ (stands (boxes c.args.starts.now c.args.sizes.now c.args.kinds.now c.args.parents.now c.args.placed.now) c.args.kind j) (is (key_at c.args.s.now (boxes c.args.starts.now c.args.sizes.now c.args.kinds.now c.args.parents.now c.args.placed.now) j) c.args.x)) c.args.i c.loop-j.j c.loop-j-test.true (sym c.has_number.ensures ∙ c.if-has_number.true)

pub loop-j-preserved : goal.loop-j-preserved
loop-j-preserved c =
    (omega arith, some_next (λ j. ◌&&◌ (stands (boxes c.args.starts.now c.args.sizes.now c.args.kinds.now c.args.parents.now c.args.placed.now) c.args.kind j) (is (key_at c.args.s.now (boxes c.args.starts.now c.args.sizes.now c.args.kinds.now c.args.parents.now c.args.placed.now) j) c.args.x)) c.loop-j.j c.loop-j.invariant.1 (sym c.has_number.ensures ∙ c.if-has_number.false))
