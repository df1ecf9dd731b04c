use native.Mathlib.Omega.{arith}
use lib.ListN.{length-set}
use Rattle.witness.proofs.Cases.{no_room, stored}
use Rattle.witness.proofs.four.Goals as goal

pub returns-then-out-lt4 : goal.returns-then-out-lt4
returns-then-out-lt4 c =
    no_room _ _ _ _ _ _ c.if-out-lt4.true

pub returns : goal.returns
returns c =
    stored _ _ _ _ _ _ c.if-out-lt4.false
