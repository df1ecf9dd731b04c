use Prim.Native.Nat.{◌-◌}
use native.Mathlib.Omega.{arith}
use Rattle.passes.proofs.Zeros.{lasting-starts, lasting-none, lasting-here, lasting-all, lasting-on}
use Rattle.passes.proofs.before_idle.Goals as goal

pub returns-then-idle : goal.returns-then-idle
returns-then-idle c =
    lasting-here c.args.file.now c.args.t c.args.n c.loop-i.i c.loop-i.left c.loop-i.invariant c.loop-i-test.true _ c.pairs-rows.ensures _ c.entry-e.ensures c.if-idle.true

pub returns-then-left-many : goal.returns-then-left-many
returns-then-left-many c =
    lasting-all c.args.file.now c.args.t c.args.n c.loop-i.i c.loop-i.left c.loop-i.invariant c.loop-i-test.true _ c.pairs-rows.ensures _ c.entry-e.ensures c.if-idle.false c.if-left-many.true

pub loop-i-preserved : goal.loop-i-preserved
loop-i-preserved c =
    lasting-on c.args.file.now c.args.t c.args.n c.loop-i.i c.loop-i.left c.loop-i.invariant c.loop-i-test.true _ c.pairs-rows.ensures _ c.entry-e.ensures c.if-idle.false c.if-left-many.false

pub returns : goal.returns
returns c =
    lasting-none c.args.file.now c.args.t c.args.n c.loop-i.i c.loop-i.left c.loop-i.invariant c.loop-i-test.false
