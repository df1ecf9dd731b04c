use mathlib.Core.Path.{ap, ◌∙◌}
use Prim.Native.Nat.{◌-◌}
use mathlib.Core.List.{List}
use native.Mathlib.Omega.{arith}
use lib.ListN.{length, take}
use Rattle.kin.specs.Kin.{boxes}
use Rattle.runtable.specs.Table.{rows_of}
use Rattle.verdicts.specs.Findings.{Span, asked}
use Rattle.payloads.specs.Payloads.{payloads_from}
use Rattle.sweeps.proofs.Walk.{begins, no_more, one_more, stops, strays, ends, moves, take-low, take-inside, run-gives, table-gives}
use Rattle.sweeps.specs.declared.Head.{Head}
use Rattle.sweeps.proofs.sweep.Goals as goal

pub loop-finding-init : goal.loop-finding-init
loop-finding-init c =
    begins c.args.fragmented c.args.file.now (rows_of c.args.table.now c.args.rows) c.dead-none.result c.start-tabled.result c.start-ran.result (ap (λ (z : Head). z.live) c.dead-none.ensures) c.start-tabled.ensures c.start-ran.ensures (payloads_from c.args.file.now (boxes c.args.starts.now c.args.sizes.now c.args.kinds.now c.args.parents.now c.args.placed.now) c.args.n 0) c.args.count _ c.args.numbers c.args.tracks (omega (arith, c.well_formed.1.1.1.1.1.1.1.0)) (omega (arith, c.well_formed.1.1.1.1.1.1.1.1.0)) c.at_most_four-most.ensures

pub returns-in-End : goal.returns-in-End
returns-in-End c =
    c.left_over.ensures ∙ ap asked (ends _ _ _ _ _ _ _ _ _ _ _ _ _ _ _ c.loop-finding.invariant _ c.decide.ensures c.in-Skip.is (no_more c.args.file.now (boxes c.args.starts.now c.args.sizes.now c.args.kinds.now c.args.parents.now c.args.placed.now) c.args.n c.loop-finding.row _ c.next.ensures c.in-End.is))

pub loop-finding-smaller-in-At : goal.loop-finding-smaller-in-At
loop-finding-smaller-in-At c =
    let o = one_more c.args.file.now (boxes c.args.starts.now c.args.sizes.now c.args.kinds.now c.args.parents.now c.args.placed.now) c.args.n c.loop-finding.row _ c.next.ensures _ _ _ c.in-At.is in omega (arith, ap (λ (z : List Span). length z) o.0)

pub loop-finding-preserved-in-At : goal.loop-finding-preserved-in-At
loop-finding-preserved-in-At c =
    moves _ _ _ _ _ _ _ _ _ _ _ _ _ _ _ c.loop-finding.invariant _ c.decide.ensures c.in-Skip.is _ _ _ (one_more c.args.file.now (boxes c.args.starts.now c.args.sizes.now c.args.kinds.now c.args.parents.now c.args.placed.now) c.args.n c.loop-finding.row _ c.next.ensures _ _ _ c.in-At.is)

pub offset_bounds-numbers-t : goal.offset_bounds-numbers-t
offset_bounds-numbers-t c =
    omega (arith, take-low _ _ _ _ _ _ _ _ _ _ _ _ _ _ _ c.loop-finding.invariant _ c.decide.ensures _ _ _ _ c.in-Take.is)

pub bounds-numbers-t : goal.bounds-numbers-t
bounds-numbers-t c =
    take-low _ _ _ _ _ _ _ _ _ _ _ _ _ _ _ c.loop-finding.invariant _ c.decide.ensures _ _ _ _ c.in-Take.is

pub offset_bounds-by_run-t : goal.offset_bounds-by_run-t
offset_bounds-by_run-t c =
    omega (arith, take-low _ _ _ _ _ _ _ _ _ _ _ _ _ _ _ c.loop-finding.invariant _ c.decide.ensures _ _ _ _ c.in-Take.is)

pub bounds-by_run-t : goal.bounds-by_run-t
bounds-by_run-t c =
    take-low _ _ _ _ _ _ _ _ _ _ _ _ _ _ _ c.loop-finding.invariant _ c.decide.ensures _ _ _ _ c.in-Take.is

pub by_runs-a-requires : goal.by_runs-a-requires
by_runs-a-requires c =
    take-inside _ _ _ _ _ _ _ _ _ _ _ _ _ _ _ c.loop-finding.invariant _ c.decide.ensures _ _ _ _ c.in-Take.is

pub offset_bounds-heads-t : goal.offset_bounds-heads-t
offset_bounds-heads-t c =
    omega (arith, take-low _ _ _ _ _ _ _ _ _ _ _ _ _ _ _ c.loop-finding.invariant _ c.decide.ensures _ _ _ _ c.in-Take.is)

pub bounds-heads-t : goal.bounds-heads-t
bounds-heads-t c =
    take-low _ _ _ _ _ _ _ _ _ _ _ _ _ _ _ c.loop-finding.invariant _ c.decide.ensures _ _ _ _ c.in-Take.is

pub offset_bounds-by_run-t-then-fragmented : goal.offset_bounds-by_run-t-then-fragmented
offset_bounds-by_run-t-then-fragmented c =
    omega (arith, take-low _ _ _ _ _ _ _ _ _ _ _ _ _ _ _ c.loop-finding.invariant _ c.decide.ensures _ _ _ _ c.in-Take.is)

pub bounds-by_run-t-then-fragmented : goal.bounds-by_run-t-then-fragmented
bounds-by_run-t-then-fragmented c =
    take-low _ _ _ _ _ _ _ _ _ _ _ _ _ _ _ c.loop-finding.invariant _ c.decide.ensures _ _ _ _ c.in-Take.is

pub loop-finding-smaller-then-fragmented : goal.loop-finding-smaller-then-fragmented
loop-finding-smaller-then-fragmented c =
    omega (arith, (run-gives _ _ _ _ _ _ _ _ _ _ _ _ _ _ _ c.loop-finding.invariant _ c.decide.ensures _ _ _ _ c.in-Take.is _ _ _ _ c.if-fragmented.true _ c.by_runs-a.ensures).1)

pub loop-finding-preserved-then-fragmented : goal.loop-finding-preserved-then-fragmented
loop-finding-preserved-then-fragmented c =
    (run-gives _ _ _ _ _ _ _ _ _ _ _ _ _ _ _ c.loop-finding.invariant _ c.decide.ensures _ _ _ _ c.in-Take.is _ _ _ _ c.if-fragmented.true _ c.by_runs-a.ensures).0

pub offset_bounds-tracks-t : goal.offset_bounds-tracks-t
offset_bounds-tracks-t c =
    omega (arith, take-low _ _ _ _ _ _ _ _ _ _ _ _ _ _ _ c.loop-finding.invariant _ c.decide.ensures _ _ _ _ c.in-Take.is)

pub bounds-tracks-t : goal.bounds-tracks-t
bounds-tracks-t c =
    take-low _ _ _ _ _ _ _ _ _ _ _ _ _ _ _ c.loop-finding.invariant _ c.decide.ensures _ _ _ _ c.in-Take.is

pub offset_bounds-by_table-t : goal.offset_bounds-by_table-t
offset_bounds-by_table-t c =
    omega (arith, take-low _ _ _ _ _ _ _ _ _ _ _ _ _ _ _ c.loop-finding.invariant _ c.decide.ensures _ _ _ _ c.in-Take.is)

pub bounds-by_table-t : goal.bounds-by_table-t
bounds-by_table-t c =
    take-low _ _ _ _ _ _ _ _ _ _ _ _ _ _ _ c.loop-finding.invariant _ c.decide.ensures _ _ _ _ c.in-Take.is

pub by_tables-a-requires : goal.by_tables-a-requires
by_tables-a-requires c =
    take-inside _ _ _ _ _ _ _ _ _ _ _ _ _ _ _ c.loop-finding.invariant _ c.decide.ensures _ _ _ _ c.in-Take.is

pub offset_bounds-heads-t-else-fragmented : goal.offset_bounds-heads-t-else-fragmented
offset_bounds-heads-t-else-fragmented c =
    omega (arith, take-low _ _ _ _ _ _ _ _ _ _ _ _ _ _ _ c.loop-finding.invariant _ c.decide.ensures _ _ _ _ c.in-Take.is)

pub bounds-heads-t-else-fragmented : goal.bounds-heads-t-else-fragmented
bounds-heads-t-else-fragmented c =
    take-low _ _ _ _ _ _ _ _ _ _ _ _ _ _ _ c.loop-finding.invariant _ c.decide.ensures _ _ _ _ c.in-Take.is

pub offset_bounds-by_table-t-else-fragmented : goal.offset_bounds-by_table-t-else-fragmented
offset_bounds-by_table-t-else-fragmented c =
    omega (arith, take-low _ _ _ _ _ _ _ _ _ _ _ _ _ _ _ c.loop-finding.invariant _ c.decide.ensures _ _ _ _ c.in-Take.is)

pub bounds-by_table-t-else-fragmented : goal.bounds-by_table-t-else-fragmented
bounds-by_table-t-else-fragmented c =
    take-low _ _ _ _ _ _ _ _ _ _ _ _ _ _ _ c.loop-finding.invariant _ c.decide.ensures _ _ _ _ c.in-Take.is

pub loop-finding-smaller : goal.loop-finding-smaller
loop-finding-smaller c =
    omega (arith, (table-gives _ _ _ _ _ _ _ _ _ _ _ _ _ _ _ c.loop-finding.invariant _ c.decide.ensures _ _ _ _ c.in-Take.is _ _ _ _ _ c.if-fragmented.false _ c.by_tables-a.ensures).1)

pub loop-finding-preserved : goal.loop-finding-preserved
loop-finding-preserved c =
    (table-gives _ _ _ _ _ _ _ _ _ _ _ _ _ _ _ c.loop-finding.invariant _ c.decide.ensures _ _ _ _ c.in-Take.is _ _ _ _ _ c.if-fragmented.false _ c.by_tables-a.ensures).0
