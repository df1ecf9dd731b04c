use native.Mathlib.Omega.{arith}
use Rattle.esfields.proofs.Puts.{length_fields, widths, fields-put}
use Rattle.esfields.proofs.put_fields.Goals as goal

pub returns : goal.returns
returns c =
    let m = c.args.stream in
    let url = c.args.url.now in
    let w = widths m url _ _ _ _ _ _ c.is_set.ensures c.is_set-2.ensures c.is_set-3.ensures c.width-depends.ensures c.width-length.ensures c.width-clock.ensures in
    fields-put m url c.args.at _ _ _ w.0 w.1 w.2 c.args.out.now _ _ _ _ _ _ _ _ _ _ _ _ (omega (arith, c.requires.0, length_fields m url)) (omega arith) (omega arith) c.requires.1 c.requires.2 c.requires.3 c.write.ensures c.write-2.ensures c.number.ensures c.number-2.ensures c.part.ensures c.number-3.ensures
