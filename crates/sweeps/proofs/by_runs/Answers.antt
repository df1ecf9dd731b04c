use native.Mathlib.Omega.{arith}
use mathlib.Core.Bool.{true}
use Rattle.sweeps.specs.Tracks.{fitting}
use Rattle.sweeps.proofs.Runs.{starts}
use Rattle.sweeps.proofs.Laws.{fitting-none, fitting-stuck}
use Rattle.sweeps.proofs.Lanes.{ends-none, ends-one, goes_one, less_one}
use Rattle.runtable.specs.Table.{rows_of}
use Rattle.fragments.specs.Lane as run
use Rattle.fragments.proofs.Views.{at-end, at-over, at_one}
use Rattle.sweeps.proofs.by_runs.Goals as goal

pub loop-sample-preserved : goal.loop-sample-preserved
loop-sample-preserved c =
    let g = c.goes_on.ensures c.if-goes_on.true in goes_one _ _ _ _ _ c.args.number (run.left c.args.file.now (rows_of c.args.table.now c.args.rows) c.args.number c.loop-sample.rest) c.loop-sample.invariant _ _ (at_one c.args.file.now (rows_of c.args.table.now c.args.rows) c.args.number c.loop-sample.rest _ c.next.ensures _ _ c.in-One.is) g.0 g.1 c.requires.1 g.2
