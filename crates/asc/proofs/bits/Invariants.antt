use mathlib.Core.Path.{◌≡◌}
use Prim.Native.Nat.{◌-◌, ◌^◌, ◌≤◌, ◌<◌}
use Rattle.asc.specs.Config.{bits_of}
use Rattle.asc.proofs.bits.Given as goal

abbrev pub invariant-loop-k : goal.invariant-loop-k
invariant-loop-k l =
    (l.value ≡ bits_of l.k l.s l.i) × (l.value < 2 ^ l.k) × (l.k ≤ l.n)

abbrev pub decreases-loop-k : goal.decreases-loop-k
decreases-loop-k l =
    l.n - l.k
