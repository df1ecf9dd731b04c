use Prim.Native.Nat.{ℕ, ◌-◌, ◌≤◌}
use mathlib.Core.Path.{◌≡◌}
use lib.ListN.{length}
use Rattle.children.specs.Children.{row_of, whole_in}
use Rattle.children.proofs.whole_from.Given as goal

abbrev pub invariant-loop-at : goal.invariant-loop-at
invariant-loop-at l =
    (f : ℕ) × (length l.s - l.at ≤ f) × (whole_in (row_of f l.s l.at) ≡ whole_in (row_of (length l.s - l.from) l.s l.from))

abbrev pub decreases-loop-at : goal.decreases-loop-at
decreases-loop-at l =
    length l.s - l.at
