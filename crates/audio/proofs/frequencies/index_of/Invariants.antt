use mathlib.Core.Path.{◌≡◌}
use Prim.Native.Nat.{◌-◌, ◌≤◌}
use lib.ListN.{drop}
use Rattle.audio.specs.Frequencies.{place_of, frequencies}
use Rattle.audio.proofs.frequencies.index_of.Given as goal

abbrev pub invariant-loop-i : goal.invariant-loop-i
invariant-loop-i l =
    (l.i ≤ 13) × (place_of l.frequency (drop l.i frequencies) l.i ≡ place_of l.frequency frequencies 0)

abbrev pub decreases-loop-i : goal.decreases-loop-i
decreases-loop-i l =
    13 - l.i
