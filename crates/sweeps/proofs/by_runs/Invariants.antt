use lib.ListN.{length}
use mathlib.Core.Bool.{true}
use Rattle.verdicts.specs.Findings.{track}
use Rattle.sweeps.specs.Tracks.{fitting}
use Rattle.sweeps.specs.Heads.{Passing}
use Rattle.runtable.specs.Table.{rows_of}
use Rattle.fragments.specs.Lane as run
use Rattle.sweeps.proofs.by_runs.Given as goal

abbrev pub invariant-loop-sample : goal.invariant-loop-sample
invariant-loop-sample l =
    Passing l.until l.end l.p (track l.number true (fitting (run.left l.file (rows_of l.table l.rows) l.number l.initial.rest))) l.at (track l.number true (fitting (run.left l.file (rows_of l.table l.rows) l.number l.rest)))

abbrev pub decreases-loop-sample : goal.decreases-loop-sample
decreases-loop-sample l =
    length (fitting (run.left l.file (rows_of l.table l.rows) l.number l.rest))
