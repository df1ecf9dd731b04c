use mathlib.Core.Path.{refl, ◌∙◌}
use Prim.Native.Nat.{◌-◌}
use native.Mathlib.Omega.{arith}
use Rattle.record.proofs.Columns.{no_size, no-duration, refused, taken}
use Rattle.record.proofs.all.Goals as goal

pub returns-then-durations-i : goal.returns-then-durations-i
returns-then-durations-i c =
    no-duration c.loop-i.sum c.args.sizes.now c.args.durations.now c.loop-i.i c.loop-i-test.true c.if-durations-i.true ∙ c.loop-i.invariant

pub returns-in-Err : goal.returns-in-Err
returns-in-Err c =
    refused c.loop-i.sum c.args.sizes.now c.args.durations.now c.loop-i.i c.loop-i-test.true (omega (arith, c.if-durations-i.false))
    c.grown.result c.grown.ensures c.in-Err.q c.in-Err.is
    ∙ c.loop-i.invariant

pub loop-i-preserved : goal.loop-i-preserved
loop-i-preserved c =
    taken c.loop-i.sum c.args.sizes.now c.args.durations.now c.loop-i.i c.loop-i-test.true (omega (arith, c.if-durations-i.false))
    c.grown.result c.grown.ensures c.in-Ok.n c.in-Ok.is
    ∙ c.loop-i.invariant

pub returns : goal.returns
returns c =
    no_size c.loop-i.sum c.args.sizes.now c.args.durations.now c.loop-i.i (omega (arith, c.loop-i-test.false)) ∙ c.loop-i.invariant
