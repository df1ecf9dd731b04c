use Rattle.std.proofs.Common.{◌<◌, ◌+◌, ◌-◌, arith}
use Rattle.numbers.proofs.Laws.{snoc_at, room_for_more, part_byte}
use Rattle.numbers.proofs.number_at.Goals as goal

pub overflow_mul-n : goal.overflow_mul-n
overflow_mul-n c =
    omega (arith, (room_for_more c.loop-byte.byte-index c.loop-byte.n 0 c.loop-byte.invariant.1 (omega arith) (omega arith)).0)

pub overflow_add-n : goal.overflow_add-n
overflow_add-n c =
    omega (arith, (room_for_more c.loop-byte.byte-index c.loop-byte.n c.from.result c.loop-byte.invariant.1 (omega arith) (omega arith)).0)

pub loop-byte-preserved : goal.loop-byte-preserved
loop-byte-preserved c =
    let i = c.loop-byte.byte-index in
    let next = snoc_at (i + 1) i (c.args.at + i) c.args.s.now c.args.at (omega arith) (omega arith) in
    let byte = part_byte (c.args.at + c.args.w - c.args.at) c.args.at i c.args.s.now (omega arith) in
    (grind (arith, next, byte), (room_for_more i c.loop-byte.n c.from.result c.loop-byte.invariant.1 (omega arith) (omega arith)).1)
