use Rattle.std.proofs.Common.{refl, sym, ◌∙◌, arith}
use native.Mathlib.Nat.{pos_of_ne-zero}
use lib.Seq.{length-take-le}
use Rattle.tree.specs.Tables.{tables}
use Rattle.places.proofs.Visits.{visit-seen}
use Rattle.tree.proofs.Walks.{no_more, at-end, refused, goes_on, stops}
use Rattle.tree.proofs.+walk.Goals as goal

pub returns-in-Err : goal.returns-in-Err
returns-in-Err t c =
    let l = c.loop-entries in
    refused c.args.s.now c.args.left c.args.row (tables l.starts l.sizes l.kinds l.parents l.depths l.placed) l.entries l.at l.n c.loop-entries-test.true c.if-row-at.true c.visit-seen.result c.visit-seen.ensures c.in-Err.q c.in-Err.is
    ∙ l.invariant

pub record_at-requires : goal.record_at-requires
record_at-requires t c =
    (visit-seen c.args.s.now c.loop-entries.at c.args.left c.args.row c.loop-entries.n _ _ (sym c.visit-seen.ensures ∙ c.in-Ok.is)).room

pub overflow_add-end : goal.overflow_add-end
overflow_add-end t c =
    omega (arith, (visit-seen c.args.s.now c.loop-entries.at c.args.left c.args.row c.loop-entries.n _ _ (sym c.visit-seen.ensures ∙ c.in-Ok.is)).inside, c.well_formed)

pub slice_bounds-walk-end : goal.slice_bounds-walk-end
slice_bounds-walk-end t c =
    sym (length-take-le _ _ (visit-seen c.args.s.now c.loop-entries.at c.args.left c.args.row c.loop-entries.n _ _ (sym c.visit-seen.ensures ∙ c.in-Ok.is)).inside)

pub overflow_sub-left : goal.overflow_sub-left
overflow_sub-left t c =
    pos_of_ne-zero (visit-seen c.args.s.now c.loop-entries.at c.args.left c.args.row c.loop-entries.n _ _ (sym c.visit-seen.ensures ∙ c.in-Ok.is)).deeper

pub walk-within-requires : goal.walk-within-requires
walk-within-requires t c =
    omega (arith, c.decreases, pos_of_ne-zero (visit-seen c.args.s.now c.loop-entries.at c.args.left c.args.row c.loop-entries.n _ _ (sym c.visit-seen.ensures ∙ c.in-Ok.is)).deeper)

pub returns-in-Fault : goal.returns-in-Fault
returns-in-Fault t c =
    let l = c.loop-entries in
    let stored = c.record_at.new in
    let walked = c.walk-within.new in
    stops c.args.s.now c.args.left c.args.row (tables l.starts l.sizes l.kinds l.parents l.depths l.placed) l.entries l.at l.n c.loop-entries-test.true c.if-row-at.true c.visit-seen.result c.visit-seen.ensures c.in-Ok.node c.in-Ok.inner c.in-Ok.is
    (tables stored.starts stored.sizes stored.kinds stored.parents stored.depths stored.placed)
    (tables walked.starts walked.sizes walked.kinds walked.parents walked.depths walked.placed)
    c.record_at.ensures c.walk-within.result c.walk-within.ensures c.in-Fault.m c.in-Fault.q c.in-Fault.is
    ∙ l.invariant

pub loop-entries-preserved : goal.loop-entries-preserved
loop-entries-preserved t c =
    let l = c.loop-entries in
    let stored = c.record_at.new in
    let walked = c.walk-within.new in
    goes_on c.args.s.now c.args.left c.args.row (tables l.starts l.sizes l.kinds l.parents l.depths l.placed) l.entries l.at l.n c.loop-entries-test.true c.if-row-at.true c.visit-seen.result c.visit-seen.ensures c.in-Ok.node c.in-Ok.inner c.in-Ok.is
    (tables stored.starts stored.sizes stored.kinds stored.parents stored.depths stored.placed)
    (tables walked.starts walked.sizes walked.kinds walked.parents walked.depths walked.placed)
    c.record_at.ensures c.walk-within.result c.walk-within.ensures c.in-Whole.m c.in-Whole.is
    ∙ l.invariant

pub returns-else-row-at : goal.returns-else-row-at
returns-else-row-at t c =
    let l = c.loop-entries in
    at-end c.args.s.now c.args.left c.args.row (tables l.starts l.sizes l.kinds l.parents l.depths l.placed) l.entries l.at l.n c.loop-entries-test.true c.if-row-at.false ∙ l.invariant

pub returns : goal.returns
returns t c =
    let l = c.loop-entries in
    no_more c.args.s.now c.args.left c.args.row (tables l.starts l.sizes l.kinds l.parents l.depths l.placed) l.entries l.at l.n (omega arith) ∙ l.invariant
