use native.Mathlib.Omega.{arith}
use mathlib.Core.Bool.{true}
use Rattle.sweeps.specs.Tracks.{fitting}
use Rattle.sweeps.proofs.Runs.{starts}
use Rattle.sweeps.proofs.Laws.{fitting-none, fitting-stuck}
use Rattle.sweeps.proofs.Lanes.{ends-none, ends-one, goes_one, less_one}
use Rattle.lanes.specs.Site as tabled
use Rattle.lanes.proofs.Sites.{at-end, at-over, at_one}
use Rattle.sweeps.proofs.by_tables.Goals as goal

pub loop-sample-preserved : goal.loop-sample-preserved
loop-sample-preserved c =
    let g = c.goes_on.ensures c.if-goes_on.true in goes_one _ _ _ _ _ c.args.number (tabled.left c.args.file.now c.args.t c.loop-sample.rest) c.loop-sample.invariant _ _ (at_one c.args.file.now c.args.t c.loop-sample.rest _ c.next.ensures _ _ _ _ c.in-One.is) g.0 g.1 c.requires.1 g.2
