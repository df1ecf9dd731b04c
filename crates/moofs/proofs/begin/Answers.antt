use Rattle.kin.specs.Kin.{boxes}
use Rattle.moofs.proofs.Steps.{no-mfhd, moof-begins}
use Rattle.moofs.proofs.begin.Goals as goal

pub returns-in_default : goal.returns-in_default
returns-in_default c =
    no-mfhd c.args.s.now (boxes c.args.starts.now c.args.sizes.now c.args.kinds.now c.args.parents.now c.args.placed.now) c.args.n c.args.j c.args.state c.args.runs.now c.args.moofs.now _ c.head.ensures _ c.in_default.is

pub returns : goal.returns
returns c =
    moof-begins c.args.s.now (boxes c.args.starts.now c.args.sizes.now c.args.kinds.now c.args.parents.now c.args.placed.now) c.args.n c.args.j c.args.state c.args.runs.now c.args.moofs.now _ c.head.ensures _ _ _ c.in-Ok.is c.store.ensures
