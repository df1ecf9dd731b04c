use Rattle.kin.specs.Kin.{boxes}
use Rattle.opened.proofs.Place.{Walking}
use Rattle.opened.proofs.trak_at.Given as goal

abbrev pub invariant-loop-left : goal.invariant-loop-left
invariant-loop-left l =
    Walking (boxes l.starts l.sizes l.kinds l.parents l.placed) l.n l.place l.left l.trak

abbrev pub decreases-loop-left : goal.decreases-loop-left
decreases-loop-left l =
    l.left
