use native.Mathlib.Omega.{arith}
use Rattle.esds_write.proofs.Puts.{never, none-put, config-told, head-put-is, decoder-put}
use Rattle.esds_write.proofs.put_decoder.Goals as goal

pub returns-in_err-content : goal.returns-in_err-content
returns-in_err-content c =
    absurd (never _ _ _ _ (head-put-is c.args.decoder c.args.info.now c.args.at c.args.out.now c.requires.0 c.requires.1 _ c.in-Some.is _ c.size.ensures _ c.in_ok-n.was _ _ c.put_head.ensures) _ c.in_err-content.was)

pub returns : goal.returns
returns c =
    decoder-put c.args.decoder c.args.info.now c.args.at c.args.out.now c.requires.0 c.requires.1 _ c.in-Some.is _ c.size.ensures _ c.in_ok-n.was _ _ c.put_head.ensures _ c.in_ok-content.was _ _ c.put.ensures
