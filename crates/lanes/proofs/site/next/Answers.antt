use Rattle.lanes.proofs.Sites.{no_size, no_place, over-end, stands}
use native.Mathlib.Omega.{arith}
use Rattle.lanes.proofs.site.next.Goals as goal

pub returns-then-count-done : goal.returns-then-count-done
returns-then-count-done c =
    no_size _ c.args.track c.args.site c.if-count-done.true

pub returns-then-p-eq0 : goal.returns-then-p-eq0
returns-then-p-eq0 c =
    no_place _ c.args.track c.args.site c.if-count-done.false _ c.size_at-size.ensures _ c.groups.ensures _ c.at_hand-p.ensures.same c.if-p-eq0.true c.at_hand-p.ensures.ready

pub returns-then-p-wide : goal.returns-then-p-wide
returns-then-p-wide c =
    over-end _ c.args.track c.args.site c.if-count-done.false _ c.size_at-size.ensures _ c.groups.ensures _ c.at_hand-p.ensures.same c.if-p-eq0.false (omega arith)

pub returns : goal.returns
returns c =
    stands _ c.args.track c.args.site c.if-count-done.false _ c.size_at-size.ensures _ c.groups.ensures _ c.at_hand-p.ensures.same c.if-p-eq0.false (omega arith) (omega arith)
