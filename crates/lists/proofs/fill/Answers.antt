use Rattle.lists.proofs.Laws.{few, fills, fills-on, fills-end, fills-not}
use Rattle.lanes.proofs.Views.{at-end, at-over, at_one}
use Rattle.lanes.proofs.Left.{left-fresh}
use Rattle.lanes.specs.Lane.{left}
use lib.ListN.{length}
use native.Mathlib.Omega.{arith}
use mathlib.Core.Path.{ap, ◌∙◌}
use Rattle.lists.proofs.fill.Goals as goal

pub loop-sample-init : goal.loop-sample-init
loop-sample-init c =
    fills _ _ _ (ap (left c.args.file.now c.args.track) c.start-lane.ensures ∙ left-fresh c.args.file.now c.args.track)

pub overflow_add-i : goal.overflow_add-i
overflow_add-i c =
    omega (arith, c.loop-sample.invariant.walk.many, ap length (at_one c.args.file.now c.args.track c.loop-sample.lane _ c.next.ensures _ _ c.in-One.is).0, few c.args.file.now c.args.track, c.well_formed.1.0.1)

pub loop-sample-preserved : goal.loop-sample-preserved
loop-sample-preserved c =
    fills-on _ _ _ _ _ c.loop-sample.invariant _ _ _ (at_one c.args.file.now c.args.track c.loop-sample.lane _ c.next.ensures _ _ c.in-One.is) c.put.ensures

pub returns-in-End-clause-count : goal.returns-in-End-clause-count
returns-in-End-clause-count c =
    (fills-end _ _ _ _ _ c.loop-sample.invariant (at-end c.args.file.now c.args.track c.loop-sample.lane _ c.next.ensures c.in-End.is)).0

pub returns-in-Over-clause-count : goal.returns-in-Over-clause-count
returns-in-Over-clause-count c =
    (fills-not _ _ _ _ _ c.loop-sample.invariant (at-over c.args.file.now c.args.track c.loop-sample.lane _ c.next.ensures c.in-Over.is)).0
