use mathlib.Core.Path.{ap, ◌∙◌}
use native.Mathlib.Nat.{sub-zero}
use Prim.Native.Nat.{◌-◌}
use native.Mathlib.Omega.{arith}
use lib.ListN.{take}
use lib.Seq.{sets}
use Rattle.tree.proofs.Columns.{copied, all-copied}
use Rattle.whole_tree.proofs.copy.Goals as goal

pub loop-i-preserved : goal.loop-i-preserved
loop-i-preserved c =
    copied c.loop-i.to c.args.from.now c.args.n c.loop-i.i c.loop-i-test.true (omega arith) ∙ c.loop-i.invariant
