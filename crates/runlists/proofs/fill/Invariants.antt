use lib.ListN.{length}
use Rattle.runtable.specs.Table.{rows_of}
use Rattle.fragments.specs.Samples.{samples_of_runs}
use Rattle.fragments.specs.Lane.{left}
use Rattle.runlists.proofs.Steps.{Listing}
use Rattle.runlists.proofs.fill.Given as goal

abbrev pub invariant-loop-sample : goal.invariant-loop-sample
invariant-loop-sample l =
    Listing (samples_of_runs l.file (rows_of l.table l.n) l.track) (left l.file (rows_of l.table l.n) l.track l.lane) l.initial.out l.out l.i

abbrev pub decreases-loop-sample : goal.decreases-loop-sample
decreases-loop-sample l =
    length (left l.file (rows_of l.table l.n) l.track l.lane)
