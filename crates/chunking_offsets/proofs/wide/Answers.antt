use mathlib.Core.Path.{refl, sym, ap, ◌∙◌}
use Prim.Native.Nat.{◌+◌, ◌-◌}
use lib.ListN.{drop}
use Rattle.chunking.specs.Chunking.{open_of, chunks_from}
use Rattle.chunking.specs.Entries.{any_wide}
use Rattle.chunking.proofs.Fills.{pieces, one-sample, no-sample, wide-found, wide-on}
use Rattle.chunking_offsets.proofs.wide.Goals as goal

pub returns-then-far : goal.returns-then-far
returns-then-far c =
    wide-found (chunks_from c.args.timescale c.loop-i.chunk (drop c.loop-i.i (pieces c.args.records.now c.args.n))) (chunks_from c.args.timescale (open_of c.next-step.result) (drop (c.loop-i.i + 1) (pieces c.args.records.now c.args.n))) c.next-step.result (one-sample c.args.timescale c.args.records.now c.args.n c.loop-i.chunk c.loop-i.i c.next-step.result c.cell-offset.result c.low-size.result c.low-duration.result (open_of c.next-step.result) c.loop-i-test.true c.cell-offset.ensures c.low-size.ensures c.low-duration.ensures c.next-step.ensures refl) (sym c.far.ensures ∙ c.if-far.true) ∙ c.loop-i.invariant

pub loop-i-preserved : goal.loop-i-preserved
loop-i-preserved c =
    wide-on (chunks_from c.args.timescale c.loop-i.chunk (drop c.loop-i.i (pieces c.args.records.now c.args.n))) (chunks_from c.args.timescale c.after-chunk.result (drop (c.loop-i.i + 1) (pieces c.args.records.now c.args.n))) c.next-step.result (one-sample c.args.timescale c.args.records.now c.args.n c.loop-i.chunk c.loop-i.i c.next-step.result c.cell-offset.result c.low-size.result c.low-duration.result c.after-chunk.result c.loop-i-test.true c.cell-offset.ensures c.low-size.ensures c.low-duration.ensures c.next-step.ensures c.after-chunk.ensures) (sym c.far.ensures ∙ c.if-far.false) ∙ c.loop-i.invariant

pub returns : goal.returns
returns c =
    c.far-2.ensures ∙ sym (ap any_wide (no-sample c.args.timescale c.args.records.now c.args.n c.loop-i.chunk c.loop-i.i c.finish.result c.loop-i-test.false c.finish.ensures)) ∙ c.loop-i.invariant
