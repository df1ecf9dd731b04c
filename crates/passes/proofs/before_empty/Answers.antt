use Prim.Native.Nat.{◌-◌}
use Rattle.passes.proofs.Zeros.{sized-common, sized-starts, sized-all, sized-here, sized_on}
use Rattle.passes.proofs.before_empty.Goals as goal

pub returns-then-t-ne0 : goal.returns-then-t-ne0
returns-then-t-ne0 c =
    sized-common c.args.file.now c.args.t c.args.n c.if-t-ne0.true

pub returns-then-size-eq0 : goal.returns-then-size-eq0
returns-then-size-eq0 c =
    sized-here c.args.file.now c.args.t c.args.n c.loop-i.i c.loop-i.invariant c.if-t-ne0.false c.loop-i-test.true _ c.four-size.ensures c.if-size-eq0.true

pub loop-i-preserved : goal.loop-i-preserved
loop-i-preserved c =
    sized_on c.args.file.now c.args.t c.args.n c.loop-i.i c.loop-i.invariant c.if-t-ne0.false c.loop-i-test.true _ c.four-size.ensures c.if-size-eq0.false

pub returns : goal.returns
returns c =
    sized-all c.args.file.now c.args.t c.args.n c.loop-i.i c.loop-i.invariant c.loop-i-test.false
