use lib.ListN.{length}
use native.Mathlib.Omega.{arith}
use Rattle.descriptor.proofs.Laws.{size-least}
use Rattle.descriptors.proofs.Puts.{too_long, no-sum-for, no-room-for, all-put}
use Rattle.descriptors.proofs.put.Goals as goal

pub returns-then-size-at : goal.returns-then-size-at
returns-then-size-at c =
    no-sum-for c.args.tag c.args.content.now c.args.at c.args.out.now c.if-content-ge268435456.false _ c.length_size-head.ensures (omega arith) (omega (arith, c.length_size-head.ensures, size-least (length c.args.content.now) 4 (omega arith) (omega arith), c.if-size-at.true))

pub returns-then-out-end : goal.returns-then-out-end
returns-then-out-end c =
    no-room-for c.args.tag c.args.content.now c.args.at c.args.out.now c.if-content-ge268435456.false _ c.length_size-head.ensures (omega (arith, c.length_size-head.ensures, size-least (length c.args.content.now) 4 (omega arith) (omega arith), c.if-size-at.false)) c.if-out-end.true

pub returns : goal.returns
returns c =
    all-put c.args.tag c.args.content.now c.args.at c.args.out.now c.if-content-ge268435456.false _ c.length_size-head.ensures c.if-out-end.false _ _ _ _ c.put_head.ensures c.part.ensures
