use mathlib.Core.Path.{sym}
use native.Mathlib.Omega.{arith}
use borrow.Author.Tests.{not-true, not-false}
use Rattle.layout.specs.Write.{encode}
use Rattle.layout.proofs.Writes.{not_made, too_long, too_small, all_placed, coded-length, part_length}
use Rattle.layout_write.proofs.by.Goals as goal

pub returns-then-len-tail : goal.returns-then-len-tail
returns-then-len-tail c =
    too_long c.args.kind c.args.tail.now c.args.buf.now c.code-coded.result (encode c.args.row c.args.values 0 0 0) c.code-coded.ensures.0 (not-false c.code-coded.result.ok c.if-not-coded.false) c.code-coded.ensures.1 c.if-len-tail.true

pub returns-then-buf-total : goal.returns-then-buf-total
returns-then-buf-total c =
    too_small c.args.kind c.args.tail.now c.args.buf.now c.code-coded.result (encode c.args.row c.args.values 0 0 0) c.code-coded.ensures.0 (not-false c.code-coded.result.ok c.if-not-coded.false) c.code-coded.ensures.1 c.if-len-tail.false c.if-buf-total.true

pub returns : goal.returns
returns c =
    all_placed c.args.kind c.args.tail.now c.args.buf.now c.code-coded.result (encode c.args.row c.args.values 0 0 0) c.code-coded.ensures.0 (not-false c.code-coded.result.ok c.if-not-coded.false) c.code-coded.ensures.1 c.if-len-tail.false c.if-buf-total.false c.write.new.out c.part.new.buf c.part-2.new.buf _ _ _ c.write.ensures c.part.ensures c.part-2.ensures
