use Rattle.follows.proofs.Steps.{own-run, other-run}
use Rattle.follows.proofs.step.Goals as goal

pub returns-then-run-track : goal.returns-then-run-track
returns-then-run-track c =
    own-run c.args.file.now c.args.track c.args.at c.args.run c.args.before c.args.told c.if-run-track.true _ c.then_timed.ensures _ c.lasts.ensures

pub returns : goal.returns
returns c =
    other-run c.args.file.now c.args.track c.args.at c.args.run c.args.before c.args.told c.if-run-track.false
