use mathlib.Core.Path.{◌≡◌}
use Prim.Native.Nat.{◌-◌}
use Rattle.kin.specs.Kin.{boxes}
use Rattle.inside.specs.Inside.{next_in}
use Rattle.inside.proofs.next.Given as goal

abbrev pub invariant-loop-j : goal.invariant-loop-j
invariant-loop-j l =
    next_in (boxes l.starts l.sizes l.kinds l.parents l.placed) l.kind l.p (l.end - l.j) l.j ≡ next_in (boxes l.starts l.sizes l.kinds l.parents l.placed) l.kind l.p (l.end - l.from) l.from

abbrev pub decreases-loop-j : goal.decreases-loop-j
decreases-loop-j l =
    l.end - l.j
