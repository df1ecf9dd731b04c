use native.Mathlib.Omega.{arith}
use mathlib.Core.Path.{ap}
use Prim.Native.Nat.{◌-◌}
use Rattle.builder.proofs.Fills.{runs-few, merge-begins, merge_on, merge-ends}
use Rattle.builder.proofs.pairs.fill.Goals as goal

pub put_closed-k-requires : goal.put_closed-k-requires
put_closed-k-requires c =
    omega (arith, runs-few c.args.records.now c.args.n c.args.column, c.loop-i.invariant.many)

pub loop-i-preserved : goal.loop-i-preserved
loop-i-preserved c =
    merge_on c.args.records.now c.args.n c.args.column c.args.out.now c.loop-i.out _ c.loop-i.i c.loop-i.k _ c.loop-i.run c.loop-i.invariant c.next-step.result c.put_closed-k.ensures c.low-value.result c.after-run.result c.loop-i-test.true c.low-value.ensures c.next-step.ensures c.after-run.ensures

pub put_closed-requires : goal.put_closed-requires
put_closed-requires c =
    omega (arith, runs-few c.args.records.now c.args.n c.args.column, c.loop-i.invariant.many)

pub returns : goal.returns
returns c =
    merge-ends c.args.records.now c.args.n c.args.column c.args.out.now c.loop-i.out _ c.loop-i.i c.loop-i.k _ c.loop-i.run c.loop-i.invariant c.finish-last.result c.put_closed.ensures c.loop-i-test.false c.finish-last.ensures
