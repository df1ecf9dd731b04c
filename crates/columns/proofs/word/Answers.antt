use native.Mathlib.Omega.{arith}
use Rattle.columns.proofs.Written.{no_room, stored}
use Rattle.columns.proofs.word.Goals as goal

pub returns-then-out-k : goal.returns-then-out-k
returns-then-out-k c =
    no_room c.args.out.now c.args.k c.args.x c.if-out-k.true

pub returns : goal.returns
returns c =
    stored c.args.out.now c.args.k c.args.x c.write.result _ c.if-out-k.false (omega arith) c.write.ensures
