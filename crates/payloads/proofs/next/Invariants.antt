use mathlib.Core.Path.{◌≡◌}
use Prim.Native.Nat.{◌-◌}
use Rattle.kin.specs.Kin.{boxes}
use Rattle.payloads.specs.Payloads.{next_in}
use Rattle.payloads.proofs.next.Given as goal

abbrev pub invariant-loop-j : goal.invariant-loop-j
invariant-loop-j l =
    next_in l.s (boxes l.starts l.sizes l.kinds l.parents l.placed) (l.end - l.j) l.j ≡ next_in l.s (boxes l.starts l.sizes l.kinds l.parents l.placed) (l.end - l.i) l.i

abbrev pub decreases-loop-j : goal.decreases-loop-j
decreases-loop-j l =
    l.end - l.j
