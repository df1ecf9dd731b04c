use mathlib.Core.Path.{ap, ◌∙◌}
use native.Mathlib.Omega.{arith}
use Rattle.runtable.specs.Table.{rows_of}
use Rattle.fragments.specs.Lane.{left}
use Rattle.fragments.proofs.Left.{left-fresh}
use Rattle.fragments.proofs.Views.{at-end, at-over, at_one}
use Rattle.runpasses.proofs.Steps.{pass-begins, pass-end, pass-stuck, few, fewer, passing-on}
use Rattle.runpasses.proofs.runs.Goals as goal

pub loop-sample-init : goal.loop-sample-init
loop-sample-init c =
    pass-begins _ _ _ (ap (left c.args.file.now (rows_of c.args.table.now c.args.n) c.args.track) c.start-lane.ensures ∙ left-fresh c.args.file.now (rows_of c.args.table.now c.args.n) c.args.track)

pub returns-in-End : goal.returns-in-End
returns-in-End c =
    pass-end _ _ _ _ _ _ c.loop-sample.invariant _ c.told.ensures (at-end c.args.file.now (rows_of c.args.table.now c.args.n) c.args.track c.loop-sample.lane _ c.next.ensures c.in-End.is)

pub returns-in-Over : goal.returns-in-Over
returns-in-Over c =
    pass-stuck _ _ _ _ _ _ c.loop-sample.invariant (at-over c.args.file.now (rows_of c.args.table.now c.args.n) c.args.track c.loop-sample.lane _ c.next.ensures c.in-Over.is)

pub overflow_cast-i : goal.overflow_cast-i
overflow_cast-i c =
    omega (arith, few c.args.file.now (rows_of c.args.table.now c.args.n) c.args.track _ c.loop-sample.so c.loop-sample.idle c.loop-sample.i c.loop-sample.invariant _ _ (at_one c.args.file.now (rows_of c.args.table.now c.args.n) c.args.track c.loop-sample.lane _ c.next.ensures _ _ c.in-One.is))

pub overflow_add-i : goal.overflow_add-i
overflow_add-i c =
    omega (arith, few c.args.file.now (rows_of c.args.table.now c.args.n) c.args.track _ c.loop-sample.so c.loop-sample.idle c.loop-sample.i c.loop-sample.invariant _ _ (at_one c.args.file.now (rows_of c.args.table.now c.args.n) c.args.track c.loop-sample.lane _ c.next.ensures _ _ c.in-One.is))

pub loop-sample-preserved : goal.loop-sample-preserved
loop-sample-preserved c =
    passing-on c.args.file.now (rows_of c.args.table.now c.args.n) c.args.track _ c.loop-sample.so c.loop-sample.idle c.loop-sample.i c.loop-sample.invariant _ _ (at_one c.args.file.now (rows_of c.args.table.now c.args.n) c.args.track c.loop-sample.lane _ c.next.ensures _ _ c.in-One.is) _ c.after_sample-so.ensures
