use Rattle.movie.proofs.Steps.{media-all, media-over, media-more, media-less}
use Rattle.payloads.proofs.Laws.{told-end, told_more, told-forward}
use mathlib.Core.Path.{sym}
use native.Mathlib.Omega.{arith}
use Prim.Native.Nat.{◌-◌}
use Rattle.kin.specs.Kin.{boxes}
use Rattle.payloads.specs.Payloads.{payloads_from}
use Rattle.movie.proofs.media.Goals as goal

pub loop-from-init : goal.loop-from-init
loop-from-init c =
    (omega arith, omega arith)

pub returns-in-End : goal.returns-in-End
returns-in-End c =
    media-all (payloads_from c.args.file.now (boxes c.args.starts.now c.args.sizes.now c.args.kinds.now c.args.parents.now c.args.placed.now) c.args.n c.loop-from.i) (payloads_from c.args.file.now (boxes c.args.starts.now c.args.sizes.now c.args.kinds.now c.args.parents.now c.args.placed.now) c.args.n 0) c.loop-from.sum c.loop-from.invariant.1 c.loop-from.invariant.0 (sym (told-end c.args.file.now (boxes c.args.starts.now c.args.sizes.now c.args.kinds.now c.args.parents.now c.args.placed.now) c.args.n c.loop-from.i _ c.next.ensures c.in-End.is))

pub overflow_sub-more : goal.overflow_sub-more
overflow_sub-more c =
    omega (arith, told-forward c.args.file.now (boxes c.args.starts.now c.args.sizes.now c.args.kinds.now c.args.parents.now c.args.placed.now) c.args.n c.loop-from.i _ c.next.ensures _ _ _ c.in-At.is)

pub overflow_sub-sum : goal.overflow_sub-sum
overflow_sub-sum c =
    omega (arith, c.loop-from.invariant.0)

pub returns-then-sum-more : goal.returns-then-sum-more
returns-then-sum-more c =
    media-over (payloads_from c.args.file.now (boxes c.args.starts.now c.args.sizes.now c.args.kinds.now c.args.parents.now c.args.placed.now) c.args.n c.loop-from.i) (payloads_from c.args.file.now (boxes c.args.starts.now c.args.sizes.now c.args.kinds.now c.args.parents.now c.args.placed.now) c.args.n 0) c.loop-from.sum c.loop-from.invariant.1 _ _ (told_more c.args.file.now (boxes c.args.starts.now c.args.sizes.now c.args.kinds.now c.args.parents.now c.args.placed.now) c.args.n c.loop-from.i _ c.next.ensures _ _ _ c.in-At.is) c.if-sum-more.true c.loop-from.invariant.0

pub overflow_add-sum : goal.overflow_add-sum
overflow_add-sum c =
    omega (arith, c.loop-from.invariant.0)

pub loop-from-smaller : goal.loop-from-smaller
loop-from-smaller c =
    media-less (payloads_from c.args.file.now (boxes c.args.starts.now c.args.sizes.now c.args.kinds.now c.args.parents.now c.args.placed.now) c.args.n c.loop-from.i) (payloads_from c.args.file.now (boxes c.args.starts.now c.args.sizes.now c.args.kinds.now c.args.parents.now c.args.placed.now) c.args.n 0) c.loop-from.sum c.loop-from.invariant.1 _ _ (told_more c.args.file.now (boxes c.args.starts.now c.args.sizes.now c.args.kinds.now c.args.parents.now c.args.placed.now) c.args.n c.loop-from.i _ c.next.ensures _ _ _ c.in-At.is)

pub loop-from-preserved : goal.loop-from-preserved
loop-from-preserved c =
    (omega (arith, c.loop-from.invariant.0), media-more (payloads_from c.args.file.now (boxes c.args.starts.now c.args.sizes.now c.args.kinds.now c.args.parents.now c.args.placed.now) c.args.n c.loop-from.i) (payloads_from c.args.file.now (boxes c.args.starts.now c.args.sizes.now c.args.kinds.now c.args.parents.now c.args.placed.now) c.args.n 0) c.loop-from.sum c.loop-from.invariant.1 _ _ (told_more c.args.file.now (boxes c.args.starts.now c.args.sizes.now c.args.kinds.now c.args.parents.now c.args.placed.now) c.args.n c.loop-from.i _ c.next.ensures _ _ _ c.in-At.is))
