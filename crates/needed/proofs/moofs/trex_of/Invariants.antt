use mathlib.Core.Path.{◌≡◌}
use Prim.Native.Nat.{◌-◌, ◌≤◌}
use Rattle.kin.specs.Kin.{boxes}
use Rattle.needed.specs.Needed.{trex_of}
use Rattle.needed.proofs.moofs.trex_of.Given as goal

abbrev pub invariant-loop-j : goal.invariant-loop-j
invariant-loop-j l =
    (l.j ≤ l.end) × (trex_of l.s (boxes l.starts l.sizes l.kinds l.parents l.placed) l.j l.track ≡ 0)

abbrev pub decreases-loop-j : goal.decreases-loop-j
decreases-loop-j l =
    l.end - l.j
