use Prim.Native.Nat.{ℕ, ◌+◌, ◌-◌, ◌≤◌}
use mathlib.Core.Path.{◌≡◌}
use lib.ListN.{length}
use Rattle.descriptors.specs.Descriptors.{seek_from, seek_of}
use Rattle.descriptors.proofs.seek.Given as goal

abbrev pub invariant-loop-p : goal.invariant-loop-p
invariant-loop-p l =
    (f : ℕ) × (length l.s ≤ l.p + f) × (seek_from f l.s l.p l.one l.other ≡ seek_of l.s l.at l.one l.other)

abbrev pub decreases-loop-p : goal.decreases-loop-p
decreases-loop-p l =
    length l.s - l.p
