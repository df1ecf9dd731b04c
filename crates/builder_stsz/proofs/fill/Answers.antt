use mathlib.Core.Path.{refl, ap}
use Prim.Native.Nat.{◌-◌}
use Rattle.columns.specs.Columns.{lows_of}
use Rattle.columns.proofs.Written.{begins}
use Rattle.builder.proofs.Fills.{list_on, list-ends}
use Rattle.builder_stsz.proofs.fill.Goals as goal

pub loop-i-preserved : goal.loop-i-preserved
loop-i-preserved c =
    list_on c.args.records.now c.args.n 2 c.args.out.now c.loop-i.out _ c.loop-i.i c.low-size.result c.loop-i.invariant c.loop-i-test.true c.low-size.ensures c.word.ensures

pub returns : goal.returns
returns c =
    list-ends c.args.records.now c.args.n 2 c.args.out.now c.loop-i.out c.loop-i.i c.loop-i.invariant c.loop-i-test.false
