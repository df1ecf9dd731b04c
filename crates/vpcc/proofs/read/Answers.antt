use mathlib.Core.Path.{refl, sym}
use native.Mathlib.Omega.{arith}
use lib.Seq.{length-take-le}
use Rattle.numbers.specs.Field.{when}
use Rattle.layout.specs.Rule.{rule_of}
use Rattle.layout.specs.Canonical.{most, limit}
use Rattle.layout.proofs.Rests.{end-in}
use Rattle.rounds.proofs.Boxes.{fits}
use Rattle.vpcc.specs.Vpcc.{kind, fields, from, cells}
use Rattle.vpcc.proofs.read.Goals as goal

pub overflow_cast-vpcc : goal.overflow_cast-vpcc
unfolding limit most rule_of when
overflow_cast-vpcc c =
    omega (arith, fits kind fields c.args.part.now 0 1 _ (sym c.in_ok-got.ensures) refl)

pub overflow_cast-vpcc-2 : goal.overflow_cast-vpcc-2
unfolding limit most rule_of when
overflow_cast-vpcc-2 c =
    omega (arith, fits kind fields c.args.part.now 1 16777215 _ (sym c.in_ok-got.ensures) refl)

pub overflow_cast-vpcc-3 : goal.overflow_cast-vpcc-3
unfolding limit most rule_of when
overflow_cast-vpcc-3 c =
    omega (arith, fits kind fields c.args.part.now 2 255 _ (sym c.in_ok-got.ensures) refl)

pub overflow_cast-vpcc-4 : goal.overflow_cast-vpcc-4
unfolding limit most rule_of when
overflow_cast-vpcc-4 c =
    omega (arith, fits kind fields c.args.part.now 3 255 _ (sym c.in_ok-got.ensures) refl)

pub overflow_cast-vpcc-5 : goal.overflow_cast-vpcc-5
unfolding limit most rule_of when
overflow_cast-vpcc-5 c =
    omega (arith, fits kind fields c.args.part.now 4 255 _ (sym c.in_ok-got.ensures) refl)

pub overflow_cast-vpcc-6 : goal.overflow_cast-vpcc-6
unfolding limit most rule_of when
overflow_cast-vpcc-6 c =
    omega (arith, fits kind fields c.args.part.now 5 255 _ (sym c.in_ok-got.ensures) refl)

pub overflow_cast-vpcc-7 : goal.overflow_cast-vpcc-7
unfolding limit most rule_of when
overflow_cast-vpcc-7 c =
    omega (arith, fits kind fields c.args.part.now 6 255 _ (sym c.in_ok-got.ensures) refl)

pub overflow_cast-vpcc-8 : goal.overflow_cast-vpcc-8
unfolding limit most rule_of when
overflow_cast-vpcc-8 c =
    omega (arith, fits kind fields c.args.part.now 7 255 _ (sym c.in_ok-got.ensures) refl)

pub overflow_cast-vpcc-9 : goal.overflow_cast-vpcc-9
unfolding limit most rule_of when
overflow_cast-vpcc-9 c =
    omega (arith, fits kind fields c.args.part.now 8 65535 _ (sym c.in_ok-got.ensures) refl)

pub slice_bounds-first_cut-end : goal.slice_bounds-first_cut-end
slice_bounds-first_cut-end c =
    sym (length-take-le _ c.args.part.now (end-in kind fields c.args.part.now _ (sym c.in_ok-got.ensures)))
