use native.Mathlib.Omega.{arith}
use mathlib.Core.Path.{refl, sym, ap, ◌∙◌}
use Prim.Native.Nat.{◌+◌, ◌-◌}
use lib.ListN.{drop}
use mathlib.Core.List.{[], append-nil}
use Rattle.chunking.specs.Chunking.{closed_of, chunks_from}
use Rattle.chunking.specs.Entries.{groups_in}
use Rattle.chunking.proofs.Fills.{pieces, one-sample, no-sample, groups-few, groups-begin, groups-on, groups-end}
use Rattle.chunking_stsc.proofs.fill.Goals as goal

pub loop-i-init : goal.loop-i-init
loop-i-init c =
    groups-begin c.args.timescale c.args.records.now c.args.n c.args.out.now _ _ c.none-chunk.ensures c.fresh.ensures

pub put_chunk-group-requires : goal.put_chunk-group-requires
put_chunk-group-requires c =
    (omega (arith, groups-few c.args.timescale c.args.records.now c.args.n, c.loop-i.invariant.words.many), omega (arith, c.loop-i.invariant.number))

pub loop-i-preserved : goal.loop-i-preserved
loop-i-preserved c =
    groups-on (groups_in c.args.timescale c.args.records.now c.args.n) c.args.out.now c.loop-i.out _ (chunks_from c.args.timescale c.loop-i.chunk (drop c.loop-i.i (pieces c.args.records.now c.args.n))) c.loop-i.group c.put_chunk-group.result (2 + c.args.n) c.loop-i.invariant c.next-step.result (chunks_from c.args.timescale c.after-chunk.result (drop (c.loop-i.i + 1) (pieces c.args.records.now c.args.n))) (one-sample c.args.timescale c.args.records.now c.args.n c.loop-i.chunk c.loop-i.i c.next-step.result c.cell-offset.result c.low-size.result c.low-duration.result c.after-chunk.result c.loop-i-test.true c.cell-offset.ensures c.low-size.ensures c.low-duration.ensures c.next-step.ensures c.after-chunk.ensures) c.put_chunk-group.ensures

pub put_chunk-group-requires-2 : goal.put_chunk-group-requires-2
put_chunk-group-requires-2 c =
    (omega (arith, groups-few c.args.timescale c.args.records.now c.args.n, c.loop-i.invariant.words.many), omega (arith, c.loop-i.invariant.number))

pub put_run-end-requires : goal.put_run-end-requires
put_run-end-requires c =
    (omega (arith, groups-few c.args.timescale c.args.records.now c.args.n, (groups-on (groups_in c.args.timescale c.args.records.now c.args.n) c.args.out.now c.loop-i.out _ (chunks_from c.args.timescale c.loop-i.chunk (drop c.loop-i.i (pieces c.args.records.now c.args.n))) c.loop-i.group c.put_chunk-group-2.result (2 + c.args.n) c.loop-i.invariant c.finish-last.result [] ((no-sample c.args.timescale c.args.records.now c.args.n c.loop-i.chunk c.loop-i.i c.finish-last.result c.loop-i-test.false c.finish-last.ensures) ∙ sym (append-nil (closed_of c.finish-last.result))) c.put_chunk-group-2.ensures).words.many), omega (arith, (groups-on (groups_in c.args.timescale c.args.records.now c.args.n) c.args.out.now c.loop-i.out _ (chunks_from c.args.timescale c.loop-i.chunk (drop c.loop-i.i (pieces c.args.records.now c.args.n))) c.loop-i.group c.put_chunk-group-2.result (2 + c.args.n) c.loop-i.invariant c.finish-last.result [] ((no-sample c.args.timescale c.args.records.now c.args.n c.loop-i.chunk c.loop-i.i c.finish-last.result c.loop-i-test.false c.finish-last.ensures) ∙ sym (append-nil (closed_of c.finish-last.result))) c.put_chunk-group-2.ensures).number))

pub returns : goal.returns
returns c =
    groups-end (groups_in c.args.timescale c.args.records.now c.args.n) c.args.out.now _ _ [] c.put_chunk-group-2.result c.put_run-end.result (2 + c.args.n) (groups-on (groups_in c.args.timescale c.args.records.now c.args.n) c.args.out.now c.loop-i.out _ (chunks_from c.args.timescale c.loop-i.chunk (drop c.loop-i.i (pieces c.args.records.now c.args.n))) c.loop-i.group c.put_chunk-group-2.result (2 + c.args.n) c.loop-i.invariant c.finish-last.result [] ((no-sample c.args.timescale c.args.records.now c.args.n c.loop-i.chunk c.loop-i.i c.finish-last.result c.loop-i-test.false c.finish-last.ensures) ∙ sym (append-nil (closed_of c.finish-last.result))) c.put_chunk-group-2.ensures) c.finish.result refl c.finish.ensures c.put_run-end.ensures
