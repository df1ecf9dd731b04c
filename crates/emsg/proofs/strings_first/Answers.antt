use mathlib.Core.Path.{sym}
use native.Mathlib.Omega.{arith}
use Rattle.emsg.proofs.Texts.{both}
use Rattle.emsg.proofs.strings_first.Goals as goal

pub overflow_add-from : goal.overflow_add-from
overflow_add-from c =
    omega (arith, (both c.args.b.now c.args.at _ _ (sym c.in_ok-scheme_end.ensures)).within)

pub overflow_add-places : goal.overflow_add-places
overflow_add-places c =
    let b = both c.args.b.now c.args.at _ _ (sym c.in_ok-scheme_end.ensures) in
    omega (arith, b.next, b.within)
