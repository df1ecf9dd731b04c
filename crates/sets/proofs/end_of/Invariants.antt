use mathlib.Core.Path.{◌≡◌}
use Rattle.sets.specs.Sets.{end_of}
use Rattle.sets.proofs.end_of.Given as goal

abbrev pub invariant-loop-left : goal.invariant-loop-left
invariant-loop-left l =
    end_of l.left l.s l.p ≡ end_of l.n l.s l.at

abbrev pub decreases-loop-left : goal.decreases-loop-left
decreases-loop-left l =
    l.left
