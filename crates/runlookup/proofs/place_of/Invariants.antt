use Prim.Native.Nat.{◌-◌, ◌≤◌}
use mathlib.Core.Path.{◌≡◌}
use lib.ListN.{drop}
use Rattle.runlookup.specs.Lookup.{place_in}
use Rattle.runtable.specs.Table.{rows_of}
use Rattle.runlookup.proofs.place_of.Given as goal

abbrev pub invariant-loop-i : goal.invariant-loop-i
invariant-loop-i l =
    (place_in l.track (l.skip - l.left) l.left (drop l.i (rows_of l.table l.n)) ≡ place_in l.track 0 l.skip (rows_of l.table l.n)) × (l.left ≤ l.skip)

abbrev pub decreases-loop-i : goal.decreases-loop-i
decreases-loop-i l =
    l.n - l.i
