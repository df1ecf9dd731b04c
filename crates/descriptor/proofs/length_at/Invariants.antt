use mathlib.Core.Path.{◌≡◌}
use Prim.Native.Nat.{◌-◌, ◌^◌, ◌≤◌, ◌<◌}
use Rattle.descriptor.specs.Descriptor.{length_from}
use Rattle.descriptor.proofs.length_at.Given as goal

abbrev pub invariant-loop-i : goal.invariant-loop-i
invariant-loop-i l =
    (length_from l.at (4 - l.i) l.value l.s l.p ≡ length_from l.at 4 0 l.s l.at) × (l.value < 128 ^ l.i) × (l.i ≤ 4)

abbrev pub decreases-loop-i : goal.decreases-loop-i
decreases-loop-i l =
    4 - l.i
