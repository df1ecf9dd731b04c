use lib.ListN.{length}
use mathlib.Core.Bool.{true}
use Rattle.verdicts.specs.Findings.{track}
use Rattle.sweeps.specs.Tracks.{fitting}
use Rattle.sweeps.specs.Heads.{Passing}
use Rattle.lanes.specs.Site as tabled
use Rattle.sweeps.proofs.by_tables.Given as goal

abbrev pub invariant-loop-sample : goal.invariant-loop-sample
invariant-loop-sample l =
    Passing l.until l.end l.p (track l.number true (fitting (tabled.left l.file l.t l.initial.rest))) l.at (track l.number true (fitting (tabled.left l.file l.t l.rest)))

abbrev pub decreases-loop-sample : goal.decreases-loop-sample
decreases-loop-sample l =
    length (fitting (tabled.left l.file l.t l.rest))
