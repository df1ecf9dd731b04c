use mathlib.Core.Path.{◌≡◌}
use Prim.Native.Nat.{◌-◌}
use Rattle.movie.proofs.Steps.{some}
use Rattle.movie.proofs.has_samples.Given as goal

abbrev pub invariant-loop-i : goal.invariant-loop-i
invariant-loop-i l =
    some l.tracks l.count l.i ≡ some l.tracks l.count 0

abbrev pub decreases-loop-i : goal.decreases-loop-i
decreases-loop-i l =
    l.end - l.i
