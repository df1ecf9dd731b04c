use Prim.Native.Nat.{ℕ, ◌-◌, ◌≤◌}
use mathlib.Core.Path.{◌≡◌}
use lib.ListN.{length}
use Rattle.children.specs.Children.{row_of, nth_in}
use Rattle.boxparts.proofs.nth_place.Given as goal

abbrev pub invariant-loop-place : goal.invariant-loop-place
invariant-loop-place l =
    (f : ℕ) × (length l.s - l.place ≤ f) × (nth_in l.left (row_of f l.s l.place) ≡ nth_in l.i (row_of (length l.s) l.s 0))

abbrev pub decreases-loop-place : goal.decreases-loop-place
decreases-loop-place l =
    length l.s - l.place
