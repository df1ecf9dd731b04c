use Rattle.std.specs.Prelude.{Ok, Err}
use mathlib.Core.Path.{◌≡◌}
use Prim.Native.Nat.{◌-◌, ◌≤◌}
use lib.ListN.{drop}
use Rattle.rows.specs.Rows.{cells_of, entry_of}
use Rattle.rows.proofs.entry.Given as goal

abbrev pub invariant-loop-i : goal.invariant-loop-i
invariant-loop-i l =
    (cells_of (drop l.i l.cells) l.b l.p l.rising ≡ entry_of l.cells l.b l.at l.last) × (l.i ≤ 4)

abbrev pub decreases-loop-i : goal.decreases-loop-i
decreases-loop-i l =
    4 - l.i
