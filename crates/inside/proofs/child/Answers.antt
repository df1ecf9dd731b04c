use Rattle.inside.specs.Inside.{child}
use Rattle.inside.proofs.child.Goals as goal

pub returns : goal.returns
unfolding child
returns c =
    c.next.ensures
