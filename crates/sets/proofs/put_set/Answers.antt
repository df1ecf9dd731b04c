use native.Mathlib.Omega.{arith}
use Rattle.sets.proofs.Cases.{too_long, past-sum, too_small, not-refused, all-put}
use Rattle.sets.proofs.put_set.Goals as goal

pub returns : goal.returns
returns c =
    all-put c.args.set.now c.args.list.now c.args.at c.if-len-gt65535.false c.if-list-end.false _ _ c.write.ensures _ _ c.part.ensures
