use lib.ListN.{length}
use Prim.Native.Nat.{◌+◌, ◌-◌, ◌*◌}
use Rattle.seek.proofs.Spans.{span-past, span-part}
use Rattle.seek.proofs.Walk.{span-nothing}
use mathlib.Core.Path.{refl}
use native.Mathlib.Omega.{arith}
use Rattle.seek.proofs.listed_span.Goals as goal

pub returns-then-to-from : goal.returns-then-to-from
returns-then-to-from c =
    span-nothing _ _ _ _ c.if-to-from.true

pub returns-then-file-t : goal.returns-then-file-t
returns-then-file-t c =
    span-past c.args.file.now c.args.t c.requires c.args.from c.args.to (omega arith)

pub returns-then-file-t-2 : goal.returns-then-file-t-2
returns-then-file-t-2 c =
    span-past c.args.file.now c.args.t c.requires c.args.from c.args.to (omega arith)

pub returns-then-file-start : goal.returns-then-file-start
returns-then-file-start c =
    span-part c.args.file.now c.args.t c.requires c.args.from c.args.to _ _ c.sum_of.ensures (c.args.t.at + c.args.from * 4) (length c.args.file.now - (c.args.t.at + c.args.from * 4)) refl refl (omega arith) (omega arith)

pub returns : goal.returns
returns c =
    span-part c.args.file.now c.args.t c.requires c.args.from c.args.to _ _ c.sum_of-2.ensures (c.args.t.at + c.args.from * 4) ((c.args.t.at + c.args.from * 4) + (c.args.to - c.args.from) * 4 - (c.args.t.at + c.args.from * 4)) refl refl (omega arith) (omega arith)
