use mathlib.Core.Path.{ap, ◌∙◌}
use Rattle.kin.specs.Kin.{boxes}
use Rattle.inside.specs.Inside.{child}
use Rattle.needed.specs.Needed.{in_stbl, in_minf}
use Rattle.needed.proofs.Lacks.{lacking, present}
use Rattle.needed.proofs.traks.in_minf.Goals as goal

pub returns-then-child-eq0 : goal.returns-then-child-eq0
unfolding in_minf
returns-then-child-eq0 c =
    lacking _ _ _ _ _ _ c.child.ensures c.if-child-eq0.true

pub returns-then-stbl-eq0 : goal.returns-then-stbl-eq0
unfolding in_minf
returns-then-stbl-eq0 c =
    present _ _ _ _ _ _ c.child.ensures c.if-child-eq0.false (lacking _ _ _ _ _ _ c.child-stbl.ensures c.if-stbl-eq0.true)

pub returns : goal.returns
unfolding in_minf
returns c =
    present _ _ _ _ _ _ c.child.ensures c.if-child-eq0.false (present _ _ _ _ _ _ c.child-stbl.ensures c.if-stbl-eq0.false (c.in_stbl.ensures ∙ ap (in_stbl (boxes c.args.starts.now c.args.sizes.now c.args.kinds.now c.args.parents.now c.args.placed.now) c.args.n) c.child-stbl.ensures))
