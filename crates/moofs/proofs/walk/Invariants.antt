use Prim.Native.Nat.{◌-◌}
use Rattle.kin.specs.Kin.{boxes}
use Rattle.moofs.specs.Moofs.{fragments_of}
use Rattle.moofs.specs.Walk.{left_in, plan_of}
use Rattle.moofs.proofs.Filling.{Filling, starts}
use Rattle.moofs.proofs.walk.Given as goal

abbrev pub invariant-loop-j : goal.invariant-loop-j
invariant-loop-j l =
    Filling (plan_of (fragments_of l.s (boxes l.starts l.sizes l.kinds l.parents l.placed) l.n)) (left_in l.s (boxes l.starts l.sizes l.kinds l.parents l.placed) l.n (l.end - l.j) l.j l.state) l.state l.j l.initial.runs l.runs l.initial.moofs l.moofs

abbrev pub decreases-loop-j : goal.decreases-loop-j
decreases-loop-j l =
    l.end - l.j
