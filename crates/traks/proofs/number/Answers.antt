use Rattle.kin.specs.Kin.{boxes}
use Rattle.traks.proofs.Tells.{row_lies, no-head, headed}
use Rattle.traks.proofs.number.Goals as goal

pub number_at-requires : goal.number_at-requires
number_at-requires c =
    row_lies c.args.s.now (boxes c.args.starts.now c.args.sizes.now c.args.kinds.now c.args.parents.now c.args.placed.now) c.args.n c.args.trak _ c.child-head.ensures c.if-head-eq0.false
