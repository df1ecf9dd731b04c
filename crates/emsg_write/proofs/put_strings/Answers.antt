use native.Mathlib.Omega.{arith}
use Rattle.emsg.proofs.Puts.{length-strings, strings-put}
use Rattle.emsg_write.proofs.put_strings.Goals as goal

pub returns : goal.returns
returns c =
    (strings-put c.args.scheme.now c.args.value.now c.args.out.now _ _ _ _ _ _ _ _ c.args.at c.requires c.part.ensures c.write.ensures c.part-2.ensures c.write-2.ensures, omega (arith, length-strings c.args.scheme.now c.args.value.now))
