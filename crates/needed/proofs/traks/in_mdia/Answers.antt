use mathlib.Core.Path.{ap, ◌∙◌}
use Rattle.kin.specs.Kin.{boxes}
use Rattle.inside.specs.Inside.{child}
use Rattle.needed.specs.Needed.{in_minf, in_mdia}
use Rattle.needed.proofs.Lacks.{lacking, present}
use Rattle.needed.proofs.traks.in_mdia.Goals as goal

pub returns-then-child-eq0 : goal.returns-then-child-eq0
unfolding in_mdia
returns-then-child-eq0 c =
    lacking _ _ _ _ _ _ c.child.ensures c.if-child-eq0.true

pub returns-then-child-eq0-2 : goal.returns-then-child-eq0-2
unfolding in_mdia
returns-then-child-eq0-2 c =
    present _ _ _ _ _ _ c.child.ensures c.if-child-eq0.false (lacking _ _ _ _ _ _ c.child-2.ensures c.if-child-eq0-2.true)

pub returns-then-minf-eq0 : goal.returns-then-minf-eq0
unfolding in_mdia
returns-then-minf-eq0 c =
    present _ _ _ _ _ _ c.child.ensures c.if-child-eq0.false (present _ _ _ _ _ _ c.child-2.ensures c.if-child-eq0-2.false (lacking _ _ _ _ _ _ c.child-minf.ensures c.if-minf-eq0.true))

pub returns : goal.returns
unfolding in_mdia
returns c =
    present _ _ _ _ _ _ c.child.ensures c.if-child-eq0.false (present _ _ _ _ _ _ c.child-2.ensures c.if-child-eq0-2.false (present _ _ _ _ _ _ c.child-minf.ensures c.if-minf-eq0.false (c.in_minf.ensures ∙ ap (in_minf (boxes c.args.starts.now c.args.sizes.now c.args.kinds.now c.args.parents.now c.args.placed.now) c.args.n) c.child-minf.ensures)))
