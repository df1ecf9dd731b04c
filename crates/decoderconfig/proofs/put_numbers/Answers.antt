use native.Mathlib.Omega.{arith}
use Rattle.decoderconfig.proofs.Puts.{numbers-put}
use Rattle.decoderconfig.proofs.put_numbers.Goals as goal

pub returns : goal.returns
returns c =
    numbers-put c.args.config c.args.out.now _ _ _ _ _ _ _ _ _ _ c.args.at c.requires.0 (omega arith) (omega arith) c.requires.1 (omega arith) (omega arith) c.write.ensures c.write-2.ensures c.write-3.ensures c.write-4.ensures c.write-5.ensures
