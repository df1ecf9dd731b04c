use mathlib.Core.Path.{sym}
use Prim.Native.Nat.{◌+◌, ◌≤◌}
use lib.ListN.{length}
use native.Mathlib.Omega.{arith}
use Rattle.numbers.proofs.Chain.{by-result, has}
use Rattle.descriptor.proofs.Cases.{head-is}
use Rattle.descriptor.proofs.Laws.{length-within}
use Rattle.descriptor.proofs.head_at.Goals as goal

pub overflow_sub-s : goal.overflow_sub-s
overflow_sub-s c =
    (length-within c.args.s.now (c.args.at + 1) c.in_ok-value.field-0.value c.in_ok-value.field-0.after (sym c.in_ok-value.ensures)).0

pub returns : goal.returns
returns c =
    let l = c.in_ok-value.field-0 in
    let w : l.after ≤ length c.args.s.now = (length-within c.args.s.now (c.args.at + 1) l.value l.after (sym c.in_ok-value.ensures)).0 in
    has by-result 1 _ _ _ c.read.ensures _ _ _ _ c.in_ok-tag.was (head-is c.args.s.now c.args.at c.in_ok-tag.tag _ l.value l.after (sym c.in_ok-value.ensures) (omega arith))
