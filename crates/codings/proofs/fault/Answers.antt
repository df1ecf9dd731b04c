use mathlib.Core.Path.{refl, ap, ◌∙◌}
use Rattle.visual.specs.Visual.{visual_of}
use Rattle.codings.specs.Codings.{codings, visual_fault}
use Rattle.codings.proofs.Picks.{here, further, unread}
use Rattle.codings.proofs.fault.Goals as goal

pub returns-then-kind-eq-AVC1 : goal.returns-then-kind-eq-AVC1
unfolding codings
returns-then-kind-eq-AVC1 c =
    here _ _ _ _ _ _ c.if-kind-eq-AVC1.true (c.visual.ensures ∙ ap (λ k. visual_fault (visual_of k c.args.part.now)) c.if-kind-eq-AVC1.true)

pub returns-then-kind-eq-VP09 : goal.returns-then-kind-eq-VP09
unfolding codings
returns-then-kind-eq-VP09 c =
    further _ _ _ _ _ _ c.if-kind-eq-AVC1.false (here _ _ _ _ _ _ c.if-kind-eq-VP09.true (c.visual-then-kind-eq-VP09.ensures ∙ ap (λ k. visual_fault (visual_of k c.args.part.now)) c.if-kind-eq-VP09.true))

pub returns-then-kind-eq-AVCC : goal.returns-then-kind-eq-AVCC
unfolding codings
returns-then-kind-eq-AVCC c =
    further _ _ _ _ _ _ c.if-kind-eq-AVC1.false (further _ _ _ _ _ _ c.if-kind-eq-VP09.false (here _ _ _ _ _ _ c.if-kind-eq-AVCC.true c.avcc.ensures))

pub returns-then-kind-eq-MP4A : goal.returns-then-kind-eq-MP4A
unfolding codings
returns-then-kind-eq-MP4A c =
    further _ _ _ _ _ _ c.if-kind-eq-AVC1.false (further _ _ _ _ _ _ c.if-kind-eq-VP09.false (further _ _ _ _ _ _ c.if-kind-eq-AVCC.false (here _ _ _ _ _ _ c.if-kind-eq-MP4A.true c.mp4a.ensures)))

pub returns-then-kind-eq-ESDS : goal.returns-then-kind-eq-ESDS
unfolding codings
returns-then-kind-eq-ESDS c =
    further _ _ _ _ _ _ c.if-kind-eq-AVC1.false (further _ _ _ _ _ _ c.if-kind-eq-VP09.false (further _ _ _ _ _ _ c.if-kind-eq-AVCC.false (further _ _ _ _ _ _ c.if-kind-eq-MP4A.false (here _ _ _ _ _ _ c.if-kind-eq-ESDS.true c.esds.ensures))))

pub returns-then-kind-eq-VPCC : goal.returns-then-kind-eq-VPCC
unfolding codings
returns-then-kind-eq-VPCC c =
    further _ _ _ _ _ _ c.if-kind-eq-AVC1.false (further _ _ _ _ _ _ c.if-kind-eq-VP09.false (further _ _ _ _ _ _ c.if-kind-eq-AVCC.false (further _ _ _ _ _ _ c.if-kind-eq-MP4A.false (further _ _ _ _ _ _ c.if-kind-eq-ESDS.false (here _ _ _ _ _ _ c.if-kind-eq-VPCC.true c.vpcc.ensures)))))

pub returns-then-kind-eq-TX3G : goal.returns-then-kind-eq-TX3G
unfolding codings
returns-then-kind-eq-TX3G c =
    further _ _ _ _ _ _ c.if-kind-eq-AVC1.false (further _ _ _ _ _ _ c.if-kind-eq-VP09.false (further _ _ _ _ _ _ c.if-kind-eq-AVCC.false (further _ _ _ _ _ _ c.if-kind-eq-MP4A.false (further _ _ _ _ _ _ c.if-kind-eq-ESDS.false (further _ _ _ _ _ _ c.if-kind-eq-VPCC.false (here _ _ _ _ _ _ c.if-kind-eq-TX3G.true c.tx3g.ensures))))))

pub returns : goal.returns
unfolding codings
returns c =
    further _ _ _ _ _ _ c.if-kind-eq-AVC1.false (further _ _ _ _ _ _ c.if-kind-eq-VP09.false (further _ _ _ _ _ _ c.if-kind-eq-AVCC.false (further _ _ _ _ _ _ c.if-kind-eq-MP4A.false (further _ _ _ _ _ _ c.if-kind-eq-ESDS.false (further _ _ _ _ _ _ c.if-kind-eq-VPCC.false (further _ _ _ _ _ _ c.if-kind-eq-TX3G.false (unread _ _ _ _ refl)))))))
