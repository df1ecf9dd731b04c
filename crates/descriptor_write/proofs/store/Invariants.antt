use mathlib.Core.Path.{◌≡◌}
use Prim.Native.Nat.{◌+◌, ◌-◌, ◌≤◌}
use lib.ListN.{length}
use lib.Seq.{sets}
use Rattle.descriptor.specs.Descriptor.{groups}
use Rattle.descriptor_write.proofs.store.Given as goal

abbrev pub invariant-loop-left : goal.invariant-loop-left
invariant-loop-left l =
    (sets l.out l.p (groups l.left l.value) ≡ sets l.initial.out l.at (groups l.w l.value)) × (l.p + l.left ≡ l.at + l.w) × (l.left ≤ l.w) × (length l.out ≡ length l.initial.out)

abbrev pub decreases-loop-left : goal.decreases-loop-left
decreases-loop-left l =
    l.left
