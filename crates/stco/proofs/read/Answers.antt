use mathlib.Core.Path.{refl, sym}
use native.Mathlib.Omega.{arith}
use lib.Seq.{length-take-le}
use Rattle.numbers.specs.Field.{when}
use Rattle.layout.specs.Rule.{rule_of}
use Rattle.layout.specs.Canonical.{most, limit}
use Rattle.layout.proofs.Rests.{end-in}
use Rattle.rounds.proofs.Boxes.{fits}
use Rattle.stco.specs.Stco.{kind, fields, from, cells}
use Rattle.stco.proofs.read.Goals as goal

pub overflow_cast-stco : goal.overflow_cast-stco
unfolding limit most rule_of when
overflow_cast-stco c =
    omega (arith, fits kind fields c.args.part.now 0 0 _ (sym c.in_ok-got.ensures) refl)

pub overflow_cast-stco-2 : goal.overflow_cast-stco-2
unfolding limit most rule_of when
overflow_cast-stco-2 c =
    omega (arith, fits kind fields c.args.part.now 1 16777215 _ (sym c.in_ok-got.ensures) refl)

pub overflow_cast-stco-3 : goal.overflow_cast-stco-3
unfolding limit most rule_of when
overflow_cast-stco-3 c =
    omega (arith, fits kind fields c.args.part.now 2 4294967295 _ (sym c.in_ok-got.ensures) refl)

pub slice_bounds-first_cut-end : goal.slice_bounds-first_cut-end
slice_bounds-first_cut-end c =
    sym (length-take-le _ c.args.part.now (end-in kind fields c.args.part.now _ (sym c.in_ok-got.ensures)))
