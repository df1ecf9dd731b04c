use mathlib.Core.Path.{ap, ◌∙◌}
use Rattle.kin.specs.Kin.{boxes}
use Rattle.inside.specs.Inside.{child}
use Rattle.needed.specs.Needed.{in_mdia, in_trak}
use Rattle.needed.proofs.Lacks.{lacking, present}
use Rattle.needed.proofs.traks.in_trak.Goals as goal

pub returns-then-child-eq0 : goal.returns-then-child-eq0
unfolding in_trak
returns-then-child-eq0 c =
    lacking _ _ _ _ _ _ c.child.ensures c.if-child-eq0.true

pub returns-then-mdia-eq0 : goal.returns-then-mdia-eq0
unfolding in_trak
returns-then-mdia-eq0 c =
    present _ _ _ _ _ _ c.child.ensures c.if-child-eq0.false (lacking _ _ _ _ _ _ c.child-mdia.ensures c.if-mdia-eq0.true)

pub returns : goal.returns
unfolding in_trak
returns c =
    present _ _ _ _ _ _ c.child.ensures c.if-child-eq0.false (present _ _ _ _ _ _ c.child-mdia.ensures c.if-mdia-eq0.false (c.in_mdia.ensures ∙ ap (in_mdia (boxes c.args.starts.now c.args.sizes.now c.args.kinds.now c.args.parents.now c.args.placed.now) c.args.n) c.child-mdia.ensures))
