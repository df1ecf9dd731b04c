use mathlib.Core.Path.{refl}
use Rattle.inside.specs.Inside.{child}
use Rattle.needed.specs.Needed.{in_stbl}
use Rattle.needed.proofs.Lacks.{lacking, present, other, neither}
use Rattle.needed.proofs.traks.in_stbl.Goals as goal

pub returns-then-child-eq0 : goal.returns-then-child-eq0
unfolding in_stbl
returns-then-child-eq0 c =
    lacking _ _ _ _ _ _ c.child.ensures c.if-child-eq0.true

pub returns-then-child-eq0-2 : goal.returns-then-child-eq0-2
unfolding in_stbl
returns-then-child-eq0-2 c =
    present _ _ _ _ _ _ c.child.ensures c.if-child-eq0.false (lacking _ _ _ _ _ _ c.child-2.ensures c.if-child-eq0-2.true)

pub returns-then-child-eq0-3 : goal.returns-then-child-eq0-3
unfolding in_stbl
returns-then-child-eq0-3 c =
    present _ _ _ _ _ _ c.child.ensures c.if-child-eq0.false (present _ _ _ _ _ _ c.child-2.ensures c.if-child-eq0-2.false (lacking _ _ _ _ _ _ c.child-3.ensures c.if-child-eq0-3.true))

pub returns-then-child-eq0-4 : goal.returns-then-child-eq0-4
unfolding in_stbl
returns-then-child-eq0-4 c =
    present _ _ _ _ _ _ c.child.ensures c.if-child-eq0.false (present _ _ _ _ _ _ c.child-2.ensures c.if-child-eq0-2.false (present _ _ _ _ _ _ c.child-3.ensures c.if-child-eq0-3.false (lacking _ _ _ _ _ _ c.child-4.ensures c.if-child-eq0-4.true)))

pub returns-then-child-ne0 : goal.returns-then-child-ne0
unfolding in_stbl
returns-then-child-ne0 c =
    present _ _ _ _ _ _ c.child.ensures c.if-child-eq0.false (present _ _ _ _ _ _ c.child-2.ensures c.if-child-eq0-2.false (present _ _ _ _ _ _ c.child-3.ensures c.if-child-eq0-3.false (present _ _ _ _ _ _ c.child-4.ensures c.if-child-eq0-4.false (other _ _ _ _ _ _ c.child-5.ensures c.if-child-ne0.true))))

pub returns-then-child-eq0-5 : goal.returns-then-child-eq0-5
unfolding in_stbl
returns-then-child-eq0-5 c =
    present _ _ _ _ _ _ c.child.ensures c.if-child-eq0.false (present _ _ _ _ _ _ c.child-2.ensures c.if-child-eq0-2.false (present _ _ _ _ _ _ c.child-3.ensures c.if-child-eq0-3.false (present _ _ _ _ _ _ c.child-4.ensures c.if-child-eq0-4.false (neither _ _ _ _ _ _ c.child-5.ensures c.if-child-ne0.false (lacking _ _ _ _ _ _ c.child-6.ensures c.if-child-eq0-5.true)))))

pub returns : goal.returns
unfolding in_stbl
returns c =
    present _ _ _ _ _ _ c.child.ensures c.if-child-eq0.false (present _ _ _ _ _ _ c.child-2.ensures c.if-child-eq0-2.false (present _ _ _ _ _ _ c.child-3.ensures c.if-child-eq0-3.false (present _ _ _ _ _ _ c.child-4.ensures c.if-child-eq0-4.false (neither _ _ _ _ _ _ c.child-5.ensures c.if-child-ne0.false (present _ _ _ _ _ _ c.child-6.ensures c.if-child-eq0-5.false (refl))))))
