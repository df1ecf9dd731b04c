use Rattle.fragments.proofs.Cases.{own-run, other-run}
use Rattle.fragments.specs.Samples.{mine, count_of}
use Rattle.fragments.proofs.first.Goals as goal

pub returns-then-run-track-clause-sample : goal.returns-then-run-track-clause-sample
unfolding mine count_of
returns-then-run-track-clause-sample c =
    (own-run c.args.file.now c.args.track c.args.number c.args.run c.if-run-track.true c.begin-inside.result c.begin-inside.ensures c.next.result c.next.ensures.sample c.next.ensures.number).0

pub returns-then-run-track-clause-number : goal.returns-then-run-track-clause-number
unfolding mine count_of
returns-then-run-track-clause-number c =
    (own-run c.args.file.now c.args.track c.args.number c.args.run c.if-run-track.true c.begin-inside.result c.begin-inside.ensures c.next.result c.next.ensures.sample c.next.ensures.number).1

pub returns-clause-sample : goal.returns-clause-sample
unfolding mine count_of
returns-clause-sample c =
    (other-run c.args.file.now c.args.track c.args.number c.args.run c.if-run-track.false).0
