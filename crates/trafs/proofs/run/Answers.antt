use mathlib.Core.Path.{refl, ap, ◌∙◌}
use native.Mathlib.Omega.{arith}
use Rattle.kin.specs.Kin.{boxes}
use Rattle.trun.specs.Trun.{trun_of}
use Rattle.trafs.specs.Trafs.{of_box}
use Rattle.trafs.proofs.Steps.{part-of, no-tfhd, no-trex, no-tfdt, no-trun, too_far, made}
use Rattle.trafs.proofs.run.Goals as goal

pub returns-in_default : goal.returns-in_default
returns-in_default c =
    no-tfhd c.args.s.now (boxes c.args.starts.now c.args.sizes.now c.args.kinds.now c.args.parents.now c.args.placed.now) c.args.n c.args.traf c.args.moof c.args.first c.args.previous _ _ c.head.ensures _ c.in_default.is c.lacking.ensures

pub returns-in_default-defaults : goal.returns-in_default-defaults
returns-in_default-defaults c =
    no-trex c.args.s.now (boxes c.args.starts.now c.args.sizes.now c.args.kinds.now c.args.parents.now c.args.placed.now) c.args.n c.args.traf c.args.moof c.args.first c.args.previous _ _ c.head.ensures _ c.in-Ok.is _ c.defaults.ensures _ c.in_default-defaults.is c.lacking-in_default-defaults.ensures

pub returns-in_default-time : goal.returns-in_default-time
returns-in_default-time c =
    no-tfdt c.args.s.now (boxes c.args.starts.now c.args.sizes.now c.args.kinds.now c.args.parents.now c.args.placed.now) c.args.n c.args.traf c.args.moof c.args.first c.args.previous _ _ c.head.ensures _ c.in-Ok.is _ c.defaults.ensures _ c.in-Ok-defaults.is _ c.time.ensures _ c.in_default-time.is c.lacking-in_default-time.ensures

pub returns-in_default-read : goal.returns-in_default-read
returns-in_default-read c =
    no-trun c.args.s.now (boxes c.args.starts.now c.args.sizes.now c.args.kinds.now c.args.parents.now c.args.placed.now) c.args.n c.args.traf c.args.moof c.args.first c.args.previous _ _ c.head.ensures _ c.in-Ok.is _ c.defaults.ensures _ c.in-Ok-defaults.is _ c.time.ensures _ c.in-Ok-time.is _ (c.read.ensures ∙ ap trun_of (part-of c.args.s.now _ (boxes c.args.starts.now c.args.sizes.now c.args.kinds.now c.args.parents.now c.args.placed.now) _ _ _ _ c.part.ensures c.of_box-start.ensures c.of_box.ensures c.child-p.ensures)) _ c.in_default-read.is c.lacking-in_default-read.ensures

pub returns-then-start-place : goal.returns-then-start-place
returns-then-start-place c =
    too_far c.args.s.now (boxes c.args.starts.now c.args.sizes.now c.args.kinds.now c.args.parents.now c.args.placed.now) c.args.n c.args.traf c.args.moof c.args.first c.args.previous _ _ c.head.ensures _ c.in-Ok.is _ c.defaults.ensures _ c.in-Ok-defaults.is _ c.time.ensures _ c.in-Ok-time.is _ (c.read.ensures ∙ ap trun_of (part-of c.args.s.now _ (boxes c.args.starts.now c.args.sizes.now c.args.kinds.now c.args.parents.now c.args.placed.now) _ _ _ _ c.part.ensures c.of_box-start.ensures c.of_box.ensures c.child-p.ensures)) _ _ _ c.in-Ok-read.is (c.of_box-start.ensures ∙ ap (of_box c.args.starts.now) c.child-p.ensures) (omega (arith, c.if-start-place.true)) refl

pub returns : goal.returns
returns c =
    made c.args.s.now (boxes c.args.starts.now c.args.sizes.now c.args.kinds.now c.args.parents.now c.args.placed.now) c.args.n c.args.traf c.args.moof c.args.first c.args.previous _ _ c.head.ensures _ c.in-Ok.is _ c.defaults.ensures _ c.in-Ok-defaults.is _ c.time.ensures _ c.in-Ok-time.is _ (c.read.ensures ∙ ap trun_of (part-of c.args.s.now _ (boxes c.args.starts.now c.args.sizes.now c.args.kinds.now c.args.parents.now c.args.placed.now) _ _ _ _ c.part.ensures c.of_box-start.ensures c.of_box.ensures c.child-p.ensures)) _ _ _ c.in-Ok-read.is (c.of_box-start.ensures ∙ ap (of_box c.args.starts.now) c.child-p.ensures) _ (omega (arith, c.if-start-place.false)) c.base-base.ensures c.make.ensures
