use Rattle.runpasses.proofs.Steps.{stays-found, finds-idle, finds-empty, finds-none}
use Rattle.runpasses.proofs.after_sample.Goals as goal

pub returns-in-Some : goal.returns-in-Some
returns-in-Some c =
    stays-found c.args.so _ c.args.track c.args.idle c.args.before c.args.number c.args.size c.in-Some.is

pub returns-then-idle : goal.returns-then-idle
returns-then-idle c =
    finds-idle c.args.so c.args.track c.args.idle c.args.before c.args.number c.args.size c.in_default.is _ c.if-idle.true c.finding.ensures

pub returns-then-size-eq0 : goal.returns-then-size-eq0
returns-then-size-eq0 c =
    finds-empty c.args.so c.args.track c.args.idle c.args.before c.args.number c.args.size c.in_default.is _ c.if-idle.false c.if-size-eq0.true c.finding-then-size-eq0.ensures

pub returns : goal.returns
returns c =
    finds-none c.args.so c.args.track c.args.idle c.args.before c.args.number c.args.size c.in_default.is c.if-idle.false c.if-size-eq0.false
