use Prim.Native.Nat.{◌*◌, ◌<◌}
use mathlib.Core.Path.{ap, sym, subst}
use native.Mathlib.Omega.{arith}
use Rattle.trun.proofs.Counts.{cells-most}
use Rattle.trun.proofs.cells_of.Goals as goal

pub overflow_mul-result : goal.overflow_mul-result
overflow_mul-result c =
    record { fits = subst (λ k. c.args.n * k < 18446744073709551616) (sym c.per_sample.ensures) (omega (arith, cells-most c.args.flags c.args.n, c.ranges.n.fits)) }

pub returns : goal.returns
returns c =
    ap (λ k. c.args.n * k) c.per_sample.ensures
