use native.Mathlib.Omega.{arith}
use Rattle.avcc.proofs.Puts.{length-laid, content-put}
use Rattle.avcc.proofs.put_content.Goals as goal

pub returns : goal.returns
returns c =
    content-put c.args.avcc c.args.sps_list.now c.args.pps_list.now c.args.extension.now c.args.out.now _ _ _ _ _ _ _ _ _ _ c.requires.0 (omega (arith, c.struct_known-2-1.given.1.1.1.1.1)) c.part.ensures c.part-2.ensures c.write.ensures c.part-3.ensures c.part-4.ensures
