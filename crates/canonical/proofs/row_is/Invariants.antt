use mathlib.Core.Path.{◌≡◌}
use Prim.Native.Nat.{◌-◌, ◌≤◌}
use lib.ListN.{length, drop}
use Rattle.layout.specs.Canonical.{exact}
use Rattle.canonical.proofs.row_is.Given as goal

abbrev pub invariant-loop-i : goal.invariant-loop-i
invariant-loop-i l =
    (exact (drop l.i l.row) l.rest l.b l.at l.version l.flags ≡ exact l.row l.rest l.b 8 0 0) × (l.at ≤ length l.b) × (l.i ≤ 24)

abbrev pub decreases-loop-i : goal.decreases-loop-i
decreases-loop-i l =
    24 - l.i
