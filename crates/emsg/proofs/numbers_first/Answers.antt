use mathlib.Core.Path.{sym}
use Prim.Native.Nat.{◌+◌}
use native.Mathlib.Omega.{arith}
use Rattle.emsg.proofs.Texts.{both}
use Rattle.emsg.proofs.numbers_first.Goals as goal

pub overflow_add-places : goal.overflow_add-places
overflow_add-places c =
    let b = both c.args.b.now (c.args.at + 20) _ _ (sym c.in_ok-scheme_end.ensures) in
    omega (arith, b.next, b.within)

pub overflow_add-places-2 : goal.overflow_add-places-2
overflow_add-places-2 c =
    omega (arith, (both c.args.b.now (c.args.at + 20) _ _ (sym c.in_ok-scheme_end.ensures)).within)
