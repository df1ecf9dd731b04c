use Prim.Native.Nat.{◌+◌, ◌≤◌}
use lib.ListN.{length}
use native.Mathlib.Omega.{arith}
use Rattle.descriptors.proofs.Puts.{same-long}
use Rattle.decoderconfig.specs.DecoderConfig.{number_bytes}
use Rattle.decoderconfig.proofs.Puts.{sounds, length-config, size-told, numbers-room, numbers-done, all-put}
use Rattle.decoderconfig.proofs.put.Goals as goal

pub put_numbers-requires : goal.put_numbers-requires
put_numbers-requires c =
    let t = size-told c.args.config c.args.info.now _ c.size.ensures c.in_ok-length.field-0 c.in_ok-length.was in
    (omega (arith, t.1, length-config c.args.config c.args.info.now, c.if-out-end.false), (sounds c.args.config c.args.info.now t.0).buffer)

pub returns-in_err-put_numbers : goal.returns-in_err-put_numbers
returns-in_err-put_numbers c =
    let t = size-told c.args.config c.args.info.now _ c.size.ensures c.in_ok-length.field-0 c.in_ok-length.was in
    let r : c.args.at + 13 ≤ length c.args.out.now = omega (arith, t.1, length-config c.args.config c.args.info.now, c.if-out-end.false) in
    absurd (numbers-room c.args.config c.args.at c.args.out.now _ _ r c.put_numbers.ensures _ c.in_err-put_numbers.was)

pub put_info-requires : goal.put_info-requires
put_info-requires c =
    let t = size-told c.args.config c.args.info.now _ c.size.ensures c.in_ok-length.field-0 c.in_ok-length.was in
    let l = length-config c.args.config c.args.info.now in
    let r : c.args.at + 13 ≤ length c.args.out.now = omega (arith, t.1, l, c.if-out-end.false) in
    let k = same-long c.args.out.now _ (number_bytes c.args.config) c.args.at (numbers-done c.args.config c.args.at c.args.out.now _ _ r c.put_numbers.ensures) in
    (omega (arith, t.1, l, c.if-out-end.false, k), (sounds c.args.config c.args.info.now t.0).small)

pub returns : goal.returns
returns c =
    let t = size-told c.args.config c.args.info.now _ c.size.ensures c.in_ok-length.field-0 c.in_ok-length.was in
    all-put c.args.config c.args.info.now c.args.at c.args.out.now t.0 c.in_ok-length.field-0 t.1 c.if-out-end.false _ _ _ _ c.put_numbers.ensures c.put_info.ensures
