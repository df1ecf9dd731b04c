use Prim.Native.Nat.{◌+◌, ◌-◌, ◌≤◌}
use mathlib.Core.Path.{◌≡◌}
use lib.ListN.{length, drop}
use lib.Seq.{sets}
use Rattle.runtable.proofs.copy.Given as goal

abbrev pub invariant-loop-i : goal.invariant-loop-i
invariant-loop-i l =
    (sets l.table (l.at + l.i) (drop l.i l.part) ≡ sets l.initial.table l.at l.part) × (l.i ≤ length l.part) × (length l.table ≡ length l.initial.table)

abbrev pub decreases-loop-i : goal.decreases-loop-i
decreases-loop-i l =
    length l.part - l.i
