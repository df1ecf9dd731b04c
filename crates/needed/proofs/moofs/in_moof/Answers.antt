use Rattle.inside.specs.Inside.{child}
use Rattle.needed.specs.Needed.{in_moof}
use Rattle.needed.proofs.Lacks.{lacking, present}
use Rattle.needed.proofs.moofs.in_moof.Goals as goal

pub returns-then-child-eq0 : goal.returns-then-child-eq0
unfolding in_moof
returns-then-child-eq0 c =
    lacking _ _ _ _ _ _ c.child.ensures c.if-child-eq0.true

pub returns : goal.returns
unfolding in_moof
returns c =
    present _ _ _ _ _ _ c.child.ensures c.if-child-eq0.false c.in_trafs.ensures
