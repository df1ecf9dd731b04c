use Prim.Native.Nat.{◌+◌, ◌-◌}
use mathlib.Core.Path.{ap}
use native.Mathlib.Nat.{sub-zero}
use native.Mathlib.Omega.{arith}
use Rattle.runs.specs.Values.{size_at}
use Rattle.runs.specs.Samples.{sum_from, bytes_in}
use Rattle.runsums.proofs.Sums.{sum-next, sum-end, ends_at, ends-over}
use Rattle.runsums.proofs.end_by_one.Goals as goal

pub loop-i-init : goal.loop-i-init
unfolding bytes_in
loop-i-init c =
    (ap (λ k. c.args.from + sum_from (size_at c.args.file.now c.args.run) k 0) (sub-zero c.args.run.trun.sample_count), c.ranges.from.fits)

pub loop-i-preserved : goal.loop-i-preserved
loop-i-preserved c =
    (omega (arith, c.loop-i.invariant.0, c.size_at-size.ensures, sum-next (size_at c.args.file.now c.args.run) c.args.run.trun.sample_count c.loop-i.i c.loop-i-test.true), omega (arith, c.loop-i.invariant.1, c.if-at-size.false))
