use Rattle.std.proofs.Common.{◌-◌}
use Rattle.follows.proofs.Steps.{runs_done, run-missing, run-next}
use Rattle.follows.proofs.in_track.Goals as goal

pub returns-in_default : goal.returns-in_default
returns-in_default c =
    run-missing c.args.file.now c.args.track c.args.at c.args.runs.now c.args.to c.loop-i.i c.loop-i.last c.loop-i.so_far _ c.loop-i.invariant _ c.row.ensures c.in_default.is

pub loop-i-preserved : goal.loop-i-preserved
loop-i-preserved c =
    run-next c.args.file.now c.args.track c.args.at c.args.runs.now c.args.to c.loop-i.i c.loop-i.last c.loop-i.so_far _ c.loop-i.invariant _ c.row.ensures c.loop-i-test.true _ c.in-Some.is _ c.step-walk.ensures

pub returns : goal.returns
returns c =
    runs_done c.args.file.now c.args.track c.args.at c.args.runs.now c.args.to c.loop-i.i c.loop-i.last c.loop-i.so_far _ c.loop-i.invariant c.loop-i-test.false
