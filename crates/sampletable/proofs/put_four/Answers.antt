use native.Mathlib.Omega.{arith}
use Rattle.sampletable.proofs.Puts.{four-put}
use Rattle.sampletable.proofs.put_four.Goals as goal

pub returns : goal.returns
returns c =
    four-put c.args.out.now _ _ _ _ c.args.at c.args.size c.args.kind 0 c.args.first c.write.result c.write-2.result c.write-3.result c.write-4.result c.requires (omega arith) (omega arith) (omega arith) (omega arith) c.write.ensures c.write-2.ensures c.write-3.ensures c.write-4.ensures
