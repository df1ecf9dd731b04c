use mathlib.Core.Path.{◌≡◌}
use Prim.Native.Nat.{◌-◌}
use Rattle.movie.proofs.Steps.{onward}
use Rattle.movie.proofs.agreements.Given as goal

abbrev pub invariant-loop-i : goal.invariant-loop-i
invariant-loop-i l =
    onward l.file l.numbers l.tracks l.count l.i ≡ onward l.file l.numbers l.tracks l.count 0

abbrev pub decreases-loop-i : goal.decreases-loop-i
decreases-loop-i l =
    l.end - l.i
