use mathlib.Core.Path.{◌≡◌}
use Prim.Native.Nat.{◌-◌, ◌*◌, ◌≤◌}
use Rattle.track_size.specs.TrackSize.{total_of}
use Rattle.track_size.proofs.total.Given as goal

abbrev pub invariant-loop-i : goal.invariant-loop-i
invariant-loop-i l =
    (l.sum ≡ total_of l.i l.part l.place) × (l.sum ≤ l.i * 0xffff_ffff) × (l.i ≤ l.count)

abbrev pub decreases-loop-i : goal.decreases-loop-i
decreases-loop-i l =
    l.count - l.i
