use mathlib.Core.Path.{refl, ◌∙◌}
use Prim.Native.Nat.{◌-◌}
use Rattle.builder.proofs.Fills.{same_end, same_more, same_stop}
use Rattle.builder_stsz.proofs.all_same.Goals as goal

pub returns-then-x-size : goal.returns-then-x-size
returns-then-x-size c =
    same_stop c.args.records.now c.args.n 2 c.args.size c.loop-i.i c.low-x.result c.loop-i-test.true c.low-x.ensures c.if-x-size.true ∙ c.loop-i.invariant

pub loop-i-preserved : goal.loop-i-preserved
loop-i-preserved c =
    same_more c.args.records.now c.args.n 2 c.args.size c.loop-i.i c.low-x.result c.loop-i-test.true c.low-x.ensures c.if-x-size.false ∙ c.loop-i.invariant

pub returns : goal.returns
returns c =
    same_end c.args.records.now c.args.n 2 c.args.size c.loop-i.i c.loop-i-test.false ∙ c.loop-i.invariant
