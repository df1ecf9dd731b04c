use Prim.Native.Nat.{◌*◌, ◌/◌, ◌^◌, ◌≤◌}
use native.Mathlib.Nat.{div-le_self}
use native.Mathlib.Omega.{arith}
use lib.Dec.{le→leb}
use lib.Ieee.{of_int, of_bits, in_float, round}
use Rattle.summary.proofs.Cases.{no-time, some-time}
use Rattle.summary.proofs.rate.Goals as goal

pub returns-then-millis-eq0 : goal.returns-then-millis-eq0
unfolding of_bits round
returns-then-millis-eq0 c =
    no-time c.args.count c.args.millis c.if-millis-eq0.true

pub returns : goal.returns
unfolding of_int
returns c =
    some-time c.args.count c.args.millis c.if-millis-eq0.false
