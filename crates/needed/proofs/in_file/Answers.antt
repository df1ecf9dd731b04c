use mathlib.Core.Path.{ap, ap₂, ◌∙◌}
use Rattle.places.specs.Kinds.{mvhd, trak}
use Rattle.kin.specs.Kin.{boxes}
use Rattle.inside.specs.Inside.{child}
use Rattle.needed.specs.Needed.{each, in_trak, in_file}
use Rattle.needed.specs.First.{or_else}
use Rattle.needed.proofs.Lacks.{lacking, present}
use Rattle.needed.proofs.in_file.Goals as goal

pub returns-then-child-eq0 : goal.returns-then-child-eq0
unfolding in_file
returns-then-child-eq0 c =
    lacking _ _ _ _ _ _ c.child.ensures c.if-child-eq0.true

pub returns-then-moov-eq0 : goal.returns-then-moov-eq0
unfolding in_file
returns-then-moov-eq0 c =
    present _ _ _ _ _ _ c.child.ensures c.if-child-eq0.false (lacking _ _ _ _ _ _ c.child-moov.ensures c.if-moov-eq0.true)

pub returns-then-child-eq0-2 : goal.returns-then-child-eq0-2
unfolding in_file
returns-then-child-eq0-2 c =
    present _ _ _ _ _ _ c.child.ensures c.if-child-eq0.false (present _ _ _ _ _ _ c.child-moov.ensures c.if-moov-eq0.false (lacking _ _ _ _ _ _ (c.child-2.ensures ∙ ap (child (boxes c.args.starts.now c.args.sizes.now c.args.kinds.now c.args.parents.now c.args.placed.now) c.args.n mvhd) c.child-moov.ensures) c.if-child-eq0-2.true))

pub returns : goal.returns
unfolding in_file
returns c =
    present _ _ _ _ _ _ c.child.ensures c.if-child-eq0.false (present _ _ _ _ _ _ c.child-moov.ensures c.if-moov-eq0.false (present _ _ _ _ _ _ (c.child-2.ensures ∙ ap (child (boxes c.args.starts.now c.args.sizes.now c.args.kinds.now c.args.parents.now c.args.placed.now) c.args.n mvhd) c.child-moov.ensures) c.if-child-eq0-2.false (c.or_else.ensures ∙ ap₂ or_else (c.in_traks-track.ensures ∙ ap (λ p. each (boxes c.args.starts.now c.args.sizes.now c.args.kinds.now c.args.parents.now c.args.placed.now) c.args.n trak p (in_trak (boxes c.args.starts.now c.args.sizes.now c.args.kinds.now c.args.parents.now c.args.placed.now) c.args.n)) c.child-moov.ensures) c.in_moofs-fragment.ensures)))
