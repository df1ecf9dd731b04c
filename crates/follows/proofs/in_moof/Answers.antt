use Rattle.std.proofs.Common.{◌-◌, refl, drop}
use Rattle.runtable.specs.Table.{rows_of}
use Rattle.follows.proofs.Steps.{tracks-done, track-next}
use Rattle.follows.proofs.in_moof.Goals as goal

pub loop-k-preserved : goal.loop-k-preserved
loop-k-preserved c =
    track-next c.args.file.now c.args.at (drop c.args.from (rows_of c.args.runs.now c.args.to)) c.args.numbers c.args.count c.loop-k.k c.loop-k.all c.loop-k.so_far _ c.loop-k.invariant c.loop-k-test.true _ refl _ c.in_track-walk.ensures

pub returns : goal.returns
returns c =
    tracks-done c.args.file.now c.args.at (drop c.args.from (rows_of c.args.runs.now c.args.to)) c.args.numbers c.args.count c.loop-k.k c.loop-k.all c.loop-k.so_far _ c.loop-k.invariant c.loop-k-test.false
