use Prim.Native.Nat.{◌-◌}
use native.Mathlib.Omega.{arith}
use Rattle.runsums.proofs.Sums.{sum-next, sum-end, sum-begins}
use Rattle.runs.specs.Samples.{durations_in}
use Rattle.runs.specs.Values.{duration_at}
use Rattle.runsums.proofs.lasts_by_one.Goals as goal

pub loop-i-init : goal.loop-i-init
unfolding durations_in
loop-i-init c =
    (sum-begins (duration_at c.args.file.now c.args.run) c.args.run.trun.sample_count, omega arith)

pub loop-i-preserved : goal.loop-i-preserved
loop-i-preserved c =
    (omega (arith, c.loop-i.invariant.0, c.duration_at.ensures, sum-next (duration_at c.args.file.now c.args.run) c.args.run.trun.sample_count c.loop-i.i c.loop-i-test.true), omega (arith, c.loop-i.invariant.1, c.duration_at.type_inv))
