use mathlib.Core.Path.{◌≡◌}
use Prim.Native.Nat.{◌+◌, ◌-◌, ◌≤◌}
use lib.ListN.{length, drop}
use lib.Seq.{sets}
use Rattle.put.proofs.copy.Given as goal

abbrev pub invariant-loop-i : goal.invariant-loop-i
invariant-loop-i l =
    (sets l.buf (l.at + l.i) (drop l.i l.part) ≡ sets l.initial.buf l.at l.part) × (l.i ≤ length l.part) × (length l.buf ≡ length l.initial.buf)

abbrev pub decreases-loop-i : goal.decreases-loop-i
decreases-loop-i l =
    length l.part - l.i
