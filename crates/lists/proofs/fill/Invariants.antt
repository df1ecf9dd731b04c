use Rattle.lists.proofs.Laws.{Filling}
use Rattle.lanes.specs.Lane.{left}
use Rattle.tables.specs.Samples.{samples_of}
use lib.ListN.{length}
use Rattle.lists.proofs.fill.Given as goal

abbrev pub invariant-loop-sample : goal.invariant-loop-sample
invariant-loop-sample l =
    Filling (samples_of l.file l.track) (left l.file l.track l.lane) l.initial.out l.out l.i

abbrev pub decreases-loop-sample : goal.decreases-loop-sample
decreases-loop-sample l =
    length (left l.file l.track l.lane)
