use mathlib.Core.Path.{◌≡◌}
use Prim.Native.Nat.{◌+◌, ◌-◌, ◌≤◌}
use lib.ListN.{length}
use lib.Seq.{sets}
use Rattle.numbers.specs.Number.{bytes}
use Rattle.put.proofs.store.Given as goal

abbrev pub invariant-loop-left : goal.invariant-loop-left
invariant-loop-left l =
    (sets l.buf l.p (bytes l.left l.n) ≡ sets l.initial.buf l.at (bytes l.w l.n)) × (l.p + l.left ≡ l.at + l.w) × (l.left ≤ l.w) × (length l.buf ≡ length l.initial.buf)

abbrev pub decreases-loop-left : goal.decreases-loop-left
decreases-loop-left l =
    l.left
