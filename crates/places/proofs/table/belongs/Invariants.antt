use mathlib.Core.Path.{◌≡◌}
use Prim.Native.Nat.{◌-◌, ◌≤◌}
use lib.ListN.{drop}
use Rattle.places.specs.Places.{listed, places}
use Rattle.places.proofs.table.belongs.Given as goal

abbrev pub invariant-loop-i : goal.invariant-loop-i
invariant-loop-i l =
    (l.i ≤ 40) × (listed l.home l.kind (drop l.i places) ≡ listed l.home l.kind places)

abbrev pub decreases-loop-i : goal.decreases-loop-i
decreases-loop-i l =
    40 - l.i
