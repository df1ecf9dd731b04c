use Prim.Native.Nat.{◌-◌}
use mathlib.Core.Path.{refl, ◌∙◌}
use Rattle.lists.proofs.Held.{low_end, low-more, low-stop}
use Rattle.lists.proofs.all_low.Goals as goal

pub returns-then-at-ge-HALF : goal.returns-then-at-ge-HALF
returns-then-at-ge-HALF c =
    low-stop c.args.file.now c.args.t c.loop-i.i _ c.loop-i-test.true c.offset_at-at.ensures c.if-at-ge-HALF.true ∙ c.loop-i.invariant

pub loop-i-preserved : goal.loop-i-preserved
loop-i-preserved c =
    low-more c.args.file.now c.args.t c.loop-i.i _ c.loop-i-test.true c.offset_at-at.ensures c.if-at-ge-HALF.false ∙ c.loop-i.invariant

pub returns : goal.returns
returns c =
    low_end c.args.file.now c.args.t c.loop-i.i c.loop-i-test.false ∙ c.loop-i.invariant
