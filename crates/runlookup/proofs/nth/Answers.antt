use Prim.Native.Nat.{◌-◌}
use mathlib.Core.Path.{ap, ◌∙◌}
use native.Mathlib.Nat.{le_antisymm}
use native.Mathlib.Omega.{arith}
use lib.ListN.{drop}
use Rattle.runlookup.proofs.Stuck.{past_end, walk_begins, walk-on, walk-over, walk_end}
use Rattle.runs.specs.Samples.{run_samples}
use Rattle.samples.specs.Lists.{view}
use Rattle.runlookup.proofs.nth.Goals as goal

pub returns-then-trun-index : goal.returns-then-trun-index
returns-then-trun-index c =
    past_end c.args.file.now c.args.run c.args.earlier c.args.index c.if-trun-index.true

pub loop-i-init : goal.loop-i-init
loop-i-init c =
    (walk_begins c.args.file.now c.args.run c.args.earlier _ c.begin-lane.ensures, omega arith)

pub returns-in-Over : goal.returns-in-Over
returns-in-Over c =
    walk-over c.args.file.now c.args.run c.args.earlier c.loop-i.lane c.loop-i.i c.args.index c.loop-i.invariant.0 c.next.result c.next.ensures.sample c.loop-i-test.true c.if-trun-index.false c.in-Over.is

pub returns-in-End : goal.returns-in-End
returns-in-End c =
    walk_end c.args.file.now c.args.run c.args.earlier c.loop-i.lane c.loop-i.i c.args.index c.loop-i.invariant.0 c.next.result c.next.ensures.sample c.loop-i-test.true c.if-trun-index.false c.in-End.is

pub loop-i-preserved : goal.loop-i-preserved
loop-i-preserved c =
    (walk-on c.args.file.now c.args.run c.args.earlier c.loop-i.lane c.loop-i.i c.args.index c.loop-i.invariant.0 c.next.result c.next.ensures.sample c.loop-i-test.true c.if-trun-index.false _ _ c.in-One.is, omega (arith, c.loop-i-test.true))
