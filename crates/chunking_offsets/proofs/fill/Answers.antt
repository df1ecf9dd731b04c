use native.Mathlib.Omega.{arith}
use mathlib.Core.Path.{ap}
use Prim.Native.Nat.{◌+◌, ◌-◌}
use lib.ListN.{drop}
use Rattle.chunking.specs.Chunking.{chunks_from}
use Rattle.chunking.proofs.Fills.{pieces, one-sample, no-sample, offsets-few, offsets-begin, offsets-on, offsets-end}
use Rattle.chunking_offsets.proofs.fill.Goals as goal

pub put_closed-k-requires : goal.put_closed-k-requires
put_closed-k-requires c =
    omega (arith, offsets-few c.args.timescale c.args.records.now c.args.n c.args.wide, c.loop-i.invariant.many)

pub loop-i-preserved : goal.loop-i-preserved
loop-i-preserved c =
    offsets-on c.args.timescale c.args.records.now c.args.n c.args.wide c.args.out.now c.loop-i.out _ c.loop-i.k _ (chunks_from c.args.timescale c.loop-i.chunk (drop c.loop-i.i (pieces c.args.records.now c.args.n))) c.loop-i.invariant c.next-step.result c.put_closed-k.ensures (chunks_from c.args.timescale c.after-chunk.result (drop (c.loop-i.i + 1) (pieces c.args.records.now c.args.n))) (one-sample c.args.timescale c.args.records.now c.args.n c.loop-i.chunk c.loop-i.i c.next-step.result c.cell-offset.result c.low-size.result c.low-duration.result c.after-chunk.result c.loop-i-test.true c.cell-offset.ensures c.low-size.ensures c.low-duration.ensures c.next-step.ensures c.after-chunk.ensures)

pub put_closed-requires : goal.put_closed-requires
put_closed-requires c =
    omega (arith, offsets-few c.args.timescale c.args.records.now c.args.n c.args.wide, c.loop-i.invariant.many)

pub returns : goal.returns
returns c =
    offsets-end c.args.timescale c.args.records.now c.args.n c.args.wide c.args.out.now c.loop-i.out _ c.loop-i.k _ (chunks_from c.args.timescale c.loop-i.chunk (drop c.loop-i.i (pieces c.args.records.now c.args.n))) c.loop-i.invariant c.finish-last.result c.put_closed.ensures (no-sample c.args.timescale c.args.records.now c.args.n c.loop-i.chunk c.loop-i.i c.finish-last.result c.loop-i-test.false c.finish-last.ensures)
