use native.Mathlib.Omega.{arith}
use Rattle.tables.specs.Samples.{samples_of}
use Rattle.lookup.proofs.Cases.{zero-unsync, past-unsync, flag-of}
use Rattle.lookup.proofs.is_sync.Goals as goal

pub returns-then-number-eq0 : goal.returns-then-number-eq0
returns-then-number-eq0 c =
    zero-unsync (samples_of c.args.file.now c.args.track) _ c.if-number-eq0.true

pub returns-then-count-number : goal.returns-then-count-number
returns-then-count-number c =
    past-unsync (samples_of c.args.file.now c.args.track) _ c.if-number-eq0.false (omega (arith, c.count.ensures))

pub returns : goal.returns
returns c =
    flag-of c.args.file.now c.args.track _ c.if-number-eq0.false _ (omega (arith, c.count.ensures)) c.flag.ensures
