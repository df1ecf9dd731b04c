use mathlib.Core.Path.{refl, sym, ◌∙◌}
use Prim.Native.Nat.{◌-◌}
use native.Mathlib.Omega.{arith}
use lib.ListN.{length, length-set}
use Rattle.numbers.proofs.Laws.{pow_pos}
use Rattle.put.proofs.Stores.{stored, none_left}
use Rattle.put.proofs.store.Goals as goal

pub nonzero_div-buf : goal.nonzero_div-buf
nonzero_div-buf c =
    omega (arith, c.power.ensures, pow_pos (c.loop-left.left - 1))

pub loop-left-preserved : goal.loop-left-preserved
loop-left-preserved c =
    (stored c.loop-left.buf c.loop-left.left c.loop-left.p c.args.n c.power.result c.loop-left-test.true c.power.ensures ∙ c.loop-left.invariant.0, omega arith, omega arith, simp length-set c.loop-left.invariant.3)

pub returns : goal.returns
returns c =
    sym (none_left c.loop-left.buf c.loop-left.left c.loop-left.p c.args.n (omega arith)) ∙ c.loop-left.invariant.0
