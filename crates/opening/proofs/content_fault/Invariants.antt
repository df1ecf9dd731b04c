use mathlib.Core.Path.{◌≡◌}
use Prim.Native.Nat.{◌-◌}
use Rattle.kin.specs.Kin.{boxes}
use Rattle.opening.specs.Opening.{first_fault}
use Rattle.opening.proofs.content_fault.Given as goal

abbrev pub invariant-loop-i : goal.invariant-loop-i
invariant-loop-i l =
    first_fault l.s (boxes l.starts l.sizes l.kinds l.parents l.placed) l.n (l.end - l.i) l.i ≡ first_fault l.s (boxes l.starts l.sizes l.kinds l.parents l.placed) l.n (l.end - 0) 0

abbrev pub decreases-loop-i : goal.decreases-loop-i
decreases-loop-i l =
    l.end - l.i
