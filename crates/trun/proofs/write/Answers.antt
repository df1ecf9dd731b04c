use Prim.Native.Nat.{◌*◌}
use mathlib.Core.Path.{refl, sym, ap, ◌∙◌}
use native.Mathlib.Omega.{arith}
use lib.ListN.{length}
use Rattle.numbers.proofs.Chain.{is_eq, is_ne}
use Rattle.trun.proofs.Counts.{cells-most}
use Rattle.trun.specs.Trun.{cells_of}
use Rattle.trun.proofs.write.Goals as goal

pub overflow_mul-size : goal.overflow_mul-size
overflow_mul-size c =
    omega (arith, c.cells_of-size.ensures, cells-most c.args.trun.flags c.args.trun.sample_count)

pub returns-then-entries-size : goal.returns-then-entries-size
returns-then-entries-size c =
    is_ne _ _ _ (length c.args.entries.now) (cells_of c.args.trun.flags c.args.trun.sample_count * 4) (λ e. c.if-entries-size.true (e ∙ sym (ap (λ k. k * 4) c.cells_of-size.ensures))) refl

pub returns : goal.returns
returns c =
    is_eq _ _ _ (length c.args.entries.now) (cells_of c.args.trun.flags c.args.trun.sample_count * 4) (c.if-entries-size.false ∙ ap (λ k. k * 4) c.cells_of-size.ensures) c.by.ensures
