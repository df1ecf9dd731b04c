use lib.ListN.{length}
use Rattle.runtable.specs.Table.{rows_of}
use Rattle.fragments.specs.Lane.{left}
use Rattle.fragments.specs.Samples.{samples_of_runs}
use Rattle.runpasses.proofs.Steps.{Passing}
use Rattle.runpasses.proofs.runs.Given as goal

abbrev pub invariant-loop-sample : goal.invariant-loop-sample
invariant-loop-sample l =
    Passing l.track (samples_of_runs l.file (rows_of l.table l.n) l.track) (left l.file (rows_of l.table l.n) l.track l.lane) l.so l.idle l.i

abbrev pub decreases-loop-sample : goal.decreases-loop-sample
decreases-loop-sample l =
    length (left l.file (rows_of l.table l.n) l.track l.lane)
