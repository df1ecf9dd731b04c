use Rattle.std.specs.Prelude.{Err}
use Rattle.std.proofs.lemmas.Result.{err_from_is_err_and}
use mathlib.Core.Path.{ap, ◌∙◌}
use Prim.Native.Nat.{◌+◌, ◌≤◌}
use native.Mathlib.Omega.{arith}
use Rattle.put.specs.Put.{wrote}
use Rattle.descriptor.proofs.Laws.{size-least}
use Rattle.esds_write.proofs.Puts.{no_fields, no-decoder, no-sl, sum_is, too_long, is-sound, long-flags, all_room, too_small, box-long, all-put}
use Rattle.esds_write.proofs.write.Goals as goal

pub returns-then-esds-gt16777215 : goal.returns-then-esds-gt16777215
returns-then-esds-gt16777215 c =
    long-flags c.args.esds c.args.url.now c.args.info.now c.args.sl.now c.args.out.now _ c.size.ensures _ c.in_ok-first.was _ c.decoder_size.ensures _ c.in_ok-second.was _ c.sl_size.ensures _ c.in_ok-third.was (omega (arith, c.if-n-ge268435456.false)) c.if-esds-gt16777215.true

pub returns-then-out-total : goal.returns-then-out-total
returns-then-out-total c =
    too_small c.args.esds c.args.url.now c.args.info.now c.args.sl.now c.args.out.now _ c.size.ensures _ c.in_ok-first.was _ c.decoder_size.ensures _ c.in_ok-second.was _ c.sl_size.ensures _ c.in_ok-third.was (omega (arith, c.if-n-ge268435456.false)) c.if-esds-gt16777215.false _ c.length_size.ensures (omega (arith, c.length_size.ensures, size-least (c.in_ok-first.field-0 + c.in_ok-second.field-0 + c.in_ok-third.field-0) 4 (omega arith) (omega (arith, c.if-n-ge268435456.false)))) c.if-out-total.true

pub put_stream-requires : goal.put_stream-requires
put_stream-requires c = (
  sum_is c.args.esds c.args.url.now c.args.info.now c.args.sl.now c.args.out.now _ c.size.ensures _ c.in_ok-first.was _ c.decoder_size.ensures _ c.in_ok-second.was _ c.sl_size.ensures _ c.in_ok-third.was,
  is-sound c.args.esds c.args.url.now c.args.info.now c.args.sl.now c.args.out.now _ c.size.ensures _ c.in_ok-first.was _ c.decoder_size.ensures _ c.in_ok-second.was _ c.sl_size.ensures _ c.in_ok-third.was (omega (arith, c.if-n-ge268435456.false)),
  omega (arith, all_room c.args.esds c.args.url.now c.args.info.now c.args.sl.now c.args.out.now _ c.size.ensures _ c.in_ok-first.was _ c.decoder_size.ensures _ c.in_ok-second.was _ c.sl_size.ensures _ c.in_ok-third.was (omega (arith, c.if-n-ge268435456.false)) c.if-esds-gt16777215.false _ c.length_size.ensures c.if-out-total.false, box-long c.args.esds c.args.url.now c.args.info.now c.args.sl.now c.args.out.now _ c.size.ensures _ c.in_ok-first.was _ c.decoder_size.ensures _ c.in_ok-second.was _ c.sl_size.ensures _ c.in_ok-third.was (omega (arith, c.if-n-ge268435456.false)) c.if-esds-gt16777215.false _ c.length_size.ensures (omega (arith, c.length_size.ensures, size-least (c.in_ok-first.field-0 + c.in_ok-second.field-0 + c.in_ok-third.field-0) 4 (omega arith) (omega (arith, c.if-n-ge268435456.false)))) c.if-out-total.false _ _ c.write.ensures _ _ c.write-2.ensures),
)

pub returns : goal.returns
returns c =
    all-put c.args.esds c.args.url.now c.args.info.now c.args.sl.now c.args.out.now _ c.size.ensures _ c.in_ok-first.was _ c.decoder_size.ensures _ c.in_ok-second.was _ c.sl_size.ensures _ c.in_ok-third.was (omega (arith, c.if-n-ge268435456.false)) c.if-esds-gt16777215.false _ c.length_size.ensures (omega (arith, c.length_size.ensures, size-least (c.in_ok-first.field-0 + c.in_ok-second.field-0 + c.in_ok-third.field-0) 4 (omega arith) (omega (arith, c.if-n-ge268435456.false)))) c.if-out-total.false _ _ c.write.ensures _ _ c.write-2.ensures _ _ c.put_stream.ensures
