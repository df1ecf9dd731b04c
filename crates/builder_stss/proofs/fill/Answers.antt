use native.Mathlib.Omega.{arith}
use mathlib.Core.Path.{ap}
use Prim.Native.Nat.{◌-◌}
use Rattle.builder.proofs.Fills.{syncs-few, sync-begins, sync-on, sync-ends}
use Rattle.builder_stss.proofs.fill.Goals as goal

pub put_sync-k-requires : goal.put_sync-k-requires
put_sync-k-requires c =
    omega (arith, syncs-few c.args.records.now c.args.n, c.loop-i.invariant.many)

pub loop-i-preserved : goal.loop-i-preserved
loop-i-preserved c =
    sync-on c.args.records.now c.args.n c.args.out.now c.loop-i.out _ c.loop-i.i c.loop-i.k _ c.cell-sync.result c.loop-i.invariant c.loop-i-test.true c.cell-sync.ensures c.put_sync-k.ensures

pub returns : goal.returns
returns c =
    sync-ends c.args.records.now c.args.n c.args.out.now c.loop-i.out c.loop-i.i c.loop-i.k c.loop-i.invariant c.loop-i-test.false
