use native.Mathlib.Omega.{arith}
use Rattle.emsg.proofs.Puts.{numbers-put}
use Rattle.emsg_write.proofs.put_numbers.Goals as goal

pub returns : goal.returns
returns c =
    (numbers-put c.args.emsg c.args.w c.args.out.now _ _ _ _ _ _ _ _ c.args.at c.requires.0 c.requires.1 (omega arith) c.requires.2 (omega arith) (omega arith) c.write.ensures c.number.ensures c.write-2.ensures c.write-3.ensures, omega arith)
