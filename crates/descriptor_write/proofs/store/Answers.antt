use mathlib.Core.Path.{refl, sym, ◌∙◌}
use Prim.Native.Nat.{◌-◌}
use native.Mathlib.Omega.{arith}
use lib.ListN.{length, length-set}
use Rattle.descriptor.proofs.Cases.{stored, none_left, pow_pos, high_is}
use Rattle.descriptor_write.proofs.store.Goals as goal

pub nonzero_div-out : goal.nonzero_div-out
nonzero_div-out c =
    omega (arith, c.power.ensures, pow_pos (c.loop-left.left - 1))

pub overflow_add-out : goal.overflow_add-out
overflow_add-out c =
    omega (arith, c.high_bit.ensures, high_is (c.loop-left.left - 1))

pub loop-left-preserved : goal.loop-left-preserved
loop-left-preserved c =
    (stored c.loop-left.out c.loop-left.left c.loop-left.p c.args.value c.power.result c.high_bit.result c.loop-left-test.true c.power.ensures c.high_bit.ensures ∙ c.loop-left.invariant.0, omega arith, omega arith, simp length-set c.loop-left.invariant.3)

pub returns : goal.returns
returns c =
    sym (none_left c.loop-left.out c.loop-left.left c.loop-left.p c.args.value (omega arith)) ∙ c.loop-left.invariant.0
