use Prim.Native.Nat.{◌+◌, ◌≤◌}
use mathlib.Core.Path.{refl, sym, ap, ◌∙◌}
use native.Mathlib.Omega.{arith}
use lib.ListN.{length}
use lib.Seq.{length-take-le}
use Rattle.numbers.proofs.Chain.{by-result, has, is_le, is_eq, is_ne}
use Rattle.descriptor.proofs.Laws.{length-within}
use Rattle.esds.specs.Esds.{lengthed}
use Rattle.esds.proofs.stream_at.Goals as goal

pub overflow_sub-s : goal.overflow_sub-s
overflow_sub-s c =
    (length-within c.args.s.now (c.args.at + 1) c.in-Ok.length.value c.in-Ok.length.after (sym c.in-Ok.ensures)).0

pub slice_bounds-content_at-end : goal.slice_bounds-content_at-end
slice_bounds-content_at-end c =
    let l = c.in-Ok.length in
    let w = (length-within c.args.s.now (c.args.at + 1) l.value l.after (sym c.in-Ok.ensures)).0 in
    sym (length-take-le _ c.args.s.now (omega (arith, w, c.if-s-length.false)))

pub returns-then-tag-eq3-2 : goal.returns-then-tag-eq3-2
returns-then-tag-eq3-2 c =
    let l = c.in-Ok.length in
    let w = (length-within c.args.s.now (c.args.at + 1) l.value l.after (sym c.in-Ok.ensures)).0 in
    let r : l.after + l.value ≤ length c.args.s.now = omega (arith, w, c.if-s-length.false) in
    has by-result 1 c.args.s.now c.args.at _ c.read.ensures _ _ _ c.in_ok-tag.tag c.in_ok-tag.was
    (is_le _ _ _ (l.after + l.value) (length c.args.s.now) r (is_eq _ _ _ c.in_ok-tag.tag 3 c.if-tag-eq3-2.true c.content_at.ensures)
    ∙ ap (lengthed c.args.s.now c.args.at c.args.flags c.in_ok-tag.tag) c.in-Ok.ensures)

pub returns-else-tag-eq3-2 : goal.returns-else-tag-eq3-2
returns-else-tag-eq3-2 c =
    let l = c.in-Ok.length in
    let w = (length-within c.args.s.now (c.args.at + 1) l.value l.after (sym c.in-Ok.ensures)).0 in
    let r : l.after + l.value ≤ length c.args.s.now = omega (arith, w, c.if-s-length.false) in
    has by-result 1 c.args.s.now c.args.at _ c.read.ensures _ _ _ c.in_ok-tag.tag c.in_ok-tag.was
    (is_le _ _ _ (l.after + l.value) (length c.args.s.now) r (is_ne _ _ _ c.in_ok-tag.tag 3 c.if-tag-eq3-2.false refl)
    ∙ ap (lengthed c.args.s.now c.args.at c.args.flags c.in_ok-tag.tag) c.in-Ok.ensures)
