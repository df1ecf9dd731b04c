use mathlib.Core.Path.{refl}
use native.Mathlib.Omega.{arith}
use Rattle.places.specs.Kinds.{tfhd}
use Rattle.kin.specs.Kin.{boxes}
use Rattle.inside.proofs.Laws.{child-most}
use Rattle.inside.specs.Inside.{child}
use Rattle.needed.specs.Needed.{in_traf}
use Rattle.needed.proofs.Lacks.{lacking, present, trex-lacking, trex-present}
use Rattle.needed.proofs.moofs.in_traf.Goals as goal

pub returns-then-tfhd-eq0 : goal.returns-then-tfhd-eq0
unfolding in_traf
returns-then-tfhd-eq0 c =
    lacking _ _ _ _ _ _ c.child-tfhd.ensures c.if-tfhd-eq0.true

pub track_of-track-requires : goal.track_of-track-requires
track_of-track-requires c =
    omega (arith, child-most (boxes c.args.starts.now c.args.sizes.now c.args.kinds.now c.args.parents.now c.args.placed.now) tfhd c.args.p c.args.n, c.child-tfhd.ensures)

pub returns-then-trex_of-eq0 : goal.returns-then-trex_of-eq0
unfolding in_traf
returns-then-trex_of-eq0 c =
    present _ _ _ _ _ _ c.child-tfhd.ensures c.if-tfhd-eq0.false (trex-lacking _ _ _ _ _ _ _ _ c.child-tfhd.ensures c.track_of-track.ensures c.trex_of.ensures c.requires c.if-trex_of-eq0.true)

pub returns-then-child-eq0 : goal.returns-then-child-eq0
unfolding in_traf
returns-then-child-eq0 c =
    present _ _ _ _ _ _ c.child-tfhd.ensures c.if-tfhd-eq0.false (trex-present _ _ _ _ _ _ _ _ c.child-tfhd.ensures c.track_of-track.ensures c.trex_of.ensures c.requires c.if-trex_of-eq0.false (lacking _ _ _ _ _ _ c.child.ensures c.if-child-eq0.true))

pub returns-then-child-eq0-2 : goal.returns-then-child-eq0-2
unfolding in_traf
returns-then-child-eq0-2 c =
    present _ _ _ _ _ _ c.child-tfhd.ensures c.if-tfhd-eq0.false (trex-present _ _ _ _ _ _ _ _ c.child-tfhd.ensures c.track_of-track.ensures c.trex_of.ensures c.requires c.if-trex_of-eq0.false (present _ _ _ _ _ _ c.child.ensures c.if-child-eq0.false (lacking _ _ _ _ _ _ c.child-2.ensures c.if-child-eq0-2.true)))

pub returns : goal.returns
unfolding in_traf
returns c =
    present _ _ _ _ _ _ c.child-tfhd.ensures c.if-tfhd-eq0.false (trex-present _ _ _ _ _ _ _ _ c.child-tfhd.ensures c.track_of-track.ensures c.trex_of.ensures c.requires c.if-trex_of-eq0.false (present _ _ _ _ _ _ c.child.ensures c.if-child-eq0.false (present _ _ _ _ _ _ c.child-2.ensures c.if-child-eq0-2.false refl)))
