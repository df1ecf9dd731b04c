use native.Mathlib.Omega.{arith}
use Rattle.tracksamples.proofs.Cases.{narrow-over, narrow_high, narrow-is}
use Rattle.tracksamples.proofs.narrow.Goals as goal

pub returns-then-n-gt4294967295 : goal.returns-then-n-gt4294967295
returns-then-n-gt4294967295 c =
    narrow_high c.args.tally _ c.in-Some.is c.if-n-gt4294967295.true

pub returns-in-None : goal.returns-in-None
returns-in-None c =
    narrow-over c.args.tally c.in-None.is

pub returns-else-n-gt4294967295 : goal.returns-else-n-gt4294967295
returns-else-n-gt4294967295 c =
    narrow-is c.args.tally _ c.in-Some.is (omega arith)
