use native.Mathlib.Omega.{arith}
use Rattle.kin.specs.Kin.{boxes}
use Rattle.opened.proofs.Place.{one_more, no_more, begins, goes, ends}
use Rattle.opened.proofs.trak_at.Goals as goal

pub loop-left-init : goal.loop-left-init
loop-left-init c =
    begins (boxes c.args.starts.now c.args.sizes.now c.args.kinds.now c.args.parents.now c.args.placed.now) c.args.n c.args.place _ c.next-trak.ensures

pub overflow_sub-left : goal.overflow_sub-left
overflow_sub-left c =
    omega (arith, (one_more c.loop-left.trak c.loop-left.left _ c.goes_on.ensures c.loop-left-test.true).1)

pub loop-left-smaller : goal.loop-left-smaller
loop-left-smaller c =
    omega (arith, (one_more c.loop-left.trak c.loop-left.left _ c.goes_on.ensures c.loop-left-test.true).1)

pub loop-left-preserved : goal.loop-left-preserved
loop-left-preserved c =
    goes (boxes c.args.starts.now c.args.sizes.now c.args.kinds.now c.args.parents.now c.args.placed.now) c.args.n c.args.place c.loop-left.left c.loop-left.trak c.loop-left.invariant _ (one_more c.loop-left.trak c.loop-left.left _ c.goes_on.ensures c.loop-left-test.true).0 (one_more c.loop-left.trak c.loop-left.left _ c.goes_on.ensures c.loop-left-test.true).1 c.next-trak-in-loop-left.ensures

pub returns : goal.returns
returns c =
    ends (boxes c.args.starts.now c.args.sizes.now c.args.kinds.now c.args.parents.now c.args.placed.now) c.args.n c.args.place c.loop-left.left c.loop-left.trak c.loop-left.invariant (no_more c.loop-left.trak c.loop-left.left _ c.goes_on.ensures c.loop-left-test.false)
