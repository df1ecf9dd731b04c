use Rattle.esds.proofs.Sounds.{sounds}
use Rattle.esds_write.proofs.Puts.{never, one-put, two-put, decoder-room, three-put, sl-room, stream-put}
use Rattle.esds_write.proofs.put_stream.Goals as goal

pub returns-in_err-fields : goal.returns-in_err-fields
returns-in_err-fields c =
    absurd (never _ _ _ _ (one-put c.args.esds c.args.url.now c.args.info.now c.args.sl.now c.requires.1 c.args.n c.requires.0 c.args.out.now c.requires.2 _ _ c.put_head.ensures) _ c.in_err-fields.was)

pub returns-in_err-decoder : goal.returns-in_err-decoder
returns-in_err-decoder c =
    absurd (never _ _ _ _ (two-put c.args.esds c.args.url.now c.args.info.now c.args.sl.now c.requires.1 c.args.n c.requires.0 c.args.out.now c.requires.2 _ _ c.put_head.ensures _ c.in_ok-fields.was _ _ c.put.ensures) _ c.in_err-decoder.was)

pub put_decoder-requires : goal.put_decoder-requires
put_decoder-requires c = (
  decoder-room c.args.esds c.args.url.now c.args.info.now c.args.sl.now c.requires.1 c.args.n c.requires.0 c.args.out.now c.requires.2 _ _ c.put_head.ensures _ c.in_ok-fields.was _ _ c.put.ensures _ c.in_ok-decoder.was,
  (sounds c.args.esds c.args.url.now c.args.info.now c.args.sl.now c.requires.1).decoder-ok,
)

pub returns-in_err-last : goal.returns-in_err-last
returns-in_err-last c =
    absurd (never _ _ _ _ (three-put c.args.esds c.args.url.now c.args.info.now c.args.sl.now c.requires.1 c.args.n c.requires.0 c.args.out.now c.requires.2 _ _ c.put_head.ensures _ c.in_ok-fields.was _ _ c.put.ensures _ c.in_ok-decoder.was _ _ c.put_decoder.ensures) _ c.in_err-last.was)

pub put_sl-requires : goal.put_sl-requires
put_sl-requires c = (
  sl-room c.args.esds c.args.url.now c.args.info.now c.args.sl.now c.requires.1 c.args.n c.requires.0 c.args.out.now c.requires.2 _ _ c.put_head.ensures _ c.in_ok-fields.was _ _ c.put.ensures _ c.in_ok-decoder.was _ _ c.put_decoder.ensures _ c.in_ok-last.was,
  (sounds c.args.esds c.args.url.now c.args.info.now c.args.sl.now c.requires.1).sl-ok,
)

pub returns : goal.returns
returns c =
    stream-put c.args.esds c.args.url.now c.args.info.now c.args.sl.now c.requires.1 c.args.n c.requires.0 c.args.out.now c.requires.2 _ _ c.put_head.ensures _ c.in_ok-fields.was _ _ c.put.ensures _ c.in_ok-decoder.was _ _ c.put_decoder.ensures _ c.in_ok-last.was _ _ c.put_sl.ensures
