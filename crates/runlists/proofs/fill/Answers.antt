use mathlib.Core.Path.{ap, ◌∙◌}
use native.Mathlib.Omega.{arith}
use Rattle.lists.proofs.Laws.{fills-end, fills-not}
use Rattle.runtable.specs.Table.{rows_of}
use Rattle.fragments.specs.Lane.{left}
use Rattle.fragments.proofs.Left.{left-fresh}
use Rattle.fragments.proofs.Views.{at-end, at-over, at_one}
use Rattle.runlists.proofs.Steps.{lists, lists-on, few, fewer}
use Rattle.runlists.proofs.fill.Goals as goal

pub loop-sample-init : goal.loop-sample-init
loop-sample-init c =
    lists _ _ _ (ap (left c.args.file.now (rows_of c.args.table.now c.args.n) c.args.track) c.start-lane.ensures ∙ left-fresh c.args.file.now (rows_of c.args.table.now c.args.n) c.args.track)

pub returns-in-End-clause-count : goal.returns-in-End-clause-count
returns-in-End-clause-count c =
    (fills-end _ _ _ _ _ c.loop-sample.invariant.filling (at-end c.args.file.now (rows_of c.args.table.now c.args.n) c.args.track c.loop-sample.lane _ c.next.ensures c.in-End.is)).0

pub returns-in-Over-clause-count : goal.returns-in-Over-clause-count
returns-in-Over-clause-count c =
    (fills-not _ _ _ _ _ c.loop-sample.invariant.filling (at-over c.args.file.now (rows_of c.args.table.now c.args.n) c.args.track c.loop-sample.lane _ c.next.ensures c.in-Over.is)).0

pub overflow_add-i : goal.overflow_add-i
overflow_add-i c =
    omega (arith, few c.args.file.now (rows_of c.args.table.now c.args.n) c.args.track _ _ _ _ c.loop-sample.invariant _ _ (at_one c.args.file.now (rows_of c.args.table.now c.args.n) c.args.track c.loop-sample.lane _ c.next.ensures _ _ c.in-One.is))

pub loop-sample-preserved : goal.loop-sample-preserved
loop-sample-preserved c =
    lists-on c.args.file.now (rows_of c.args.table.now c.args.n) c.args.track _ _ _ _ c.loop-sample.invariant _ _ (at_one c.args.file.now (rows_of c.args.table.now c.args.n) c.args.track c.loop-sample.lane _ c.next.ensures _ _ c.in-One.is) _ c.put.ensures
