use native.Mathlib.Omega.{arith}
use Rattle.esfields.proofs.Puts.{sounds, length_fields, size-told}
use Rattle.esfields.proofs.put.Goals as goal

pub put_fields-requires : goal.put_fields-requires
put_fields-requires c =
    let t = size-told c.args.stream c.args.url.now _ c.size.ensures c.in_ok-length.field-0 c.in_ok-length.was in
    let s = sounds c.args.stream c.args.url.now t.0 in
    (omega (arith, t.1, c.if-out-end.false, length_fields c.args.stream c.args.url.now), s.depends, s.url-has, s.clock)
