use mathlib.Core.Path.{refl, sym, ap, ◌∙◌}
use Prim.Native.Nat.{◌-◌}
use lib.ListN.{get_or}
use Rattle.kin.specs.Kin.{boxes}
use Rattle.contents.specs.Held.{number_in, track_from}
use Rattle.contents.proofs.Helds.{track-left, track-here, track-on, track-none}
use Rattle.contents.proofs.held.track_of.Goals as goal

pub returns-then-parents-k : goal.returns-then-parents-k
returns-then-parents-k c =
    track-left c.args.s.now (boxes c.args.starts.now c.args.sizes.now c.args.kinds.now c.args.parents.now c.args.placed.now) (get_or c.args.parents.now c.args.j 0) c.loop-k.k c.rows-end.result c.loop-k-test.true c.if-parents-k.true ∙ c.loop-k.invariant ∙ ap (λ e. track_from (e - (get_or c.args.parents.now c.args.j 0)) c.args.s.now (boxes c.args.starts.now c.args.sizes.now c.args.kinds.now c.args.parents.now c.args.placed.now) (get_or c.args.parents.now c.args.j 0) (get_or c.args.parents.now c.args.j 0)) c.rows-end.ensures

pub returns-then-heads : goal.returns-then-heads
returns-then-heads c =
    track-here c.args.s.now (boxes c.args.starts.now c.args.sizes.now c.args.kinds.now c.args.parents.now c.args.placed.now) (get_or c.args.parents.now c.args.j 0) c.loop-k.k c.rows-end.result c.loop-k-test.true _ c.if-parents-k.false (sym c.heads.ensures ∙ c.if-heads.true) (c.number_in.ensures ∙ ap number_in c.key_at.ensures) ∙ c.loop-k.invariant ∙ ap (λ e. track_from (e - (get_or c.args.parents.now c.args.j 0)) c.args.s.now (boxes c.args.starts.now c.args.sizes.now c.args.kinds.now c.args.parents.now c.args.placed.now) (get_or c.args.parents.now c.args.j 0) (get_or c.args.parents.now c.args.j 0)) c.rows-end.ensures

pub loop-k-preserved : goal.loop-k-preserved
loop-k-preserved c =
    track-on c.args.s.now (boxes c.args.starts.now c.args.sizes.now c.args.kinds.now c.args.parents.now c.args.placed.now) (get_or c.args.parents.now c.args.j 0) c.loop-k.k c.rows-end.result c.loop-k-test.true c.if-parents-k.false (sym c.heads.ensures ∙ c.if-heads.false) ∙ c.loop-k.invariant

pub returns : goal.returns
returns c =
    track-none c.args.s.now (boxes c.args.starts.now c.args.sizes.now c.args.kinds.now c.args.parents.now c.args.placed.now) (get_or c.args.parents.now c.args.j 0) c.loop-k.k c.rows-end.result c.loop-k-test.false ∙ c.loop-k.invariant ∙ ap (λ e. track_from (e - (get_or c.args.parents.now c.args.j 0)) c.args.s.now (boxes c.args.starts.now c.args.sizes.now c.args.kinds.now c.args.parents.now c.args.placed.now) (get_or c.args.parents.now c.args.j 0) (get_or c.args.parents.now c.args.j 0)) c.rows-end.ensures
