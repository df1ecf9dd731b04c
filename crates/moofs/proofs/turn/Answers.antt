use mathlib.Core.Path.{refl}
use Rattle.kin.specs.Kin.{boxes}
use Rattle.moofs.proofs.Steps.{is-moof, is-outside, is-traf, is-other}
use Rattle.moofs.proofs.turn.Goals as goal

pub returns-then-is_moof : goal.returns-then-is_moof
returns-then-is_moof c =
    is-moof c.args.s.now (boxes c.args.starts.now c.args.sizes.now c.args.kinds.now c.args.parents.now c.args.placed.now) c.args.n c.args.j c.args.state c.args.runs.now c.args.moofs.now _ _ c.is_moof.ensures c.if-is_moof.true c.begin.ensures

pub returns-then-is_traf : goal.returns-then-is_traf
returns-then-is_traf c =
    is-traf c.args.s.now (boxes c.args.starts.now c.args.sizes.now c.args.kinds.now c.args.parents.now c.args.placed.now) c.args.n c.args.j c.args.state c.args.runs.now c.args.moofs.now _ _ c.is_moof.ensures c.if-is_moof.false c.if-state.true _ c.is_traf.ensures c.if-is_traf.true c.add.ensures

pub returns-else-is_traf : goal.returns-else-is_traf
returns-else-is_traf c =
    is-other c.args.s.now (boxes c.args.starts.now c.args.sizes.now c.args.kinds.now c.args.parents.now c.args.placed.now) c.args.n c.args.j c.args.state c.args.runs.now c.args.moofs.now _ _ c.is_moof.ensures c.if-is_moof.false c.if-state.true _ c.is_traf.ensures c.if-is_traf.false refl

pub returns-else-state : goal.returns-else-state
returns-else-state c =
    is-outside c.args.s.now (boxes c.args.starts.now c.args.sizes.now c.args.kinds.now c.args.parents.now c.args.placed.now) c.args.n c.args.j c.args.state c.args.runs.now c.args.moofs.now _ _ c.is_moof.ensures c.if-is_moof.false c.if-state.false refl
