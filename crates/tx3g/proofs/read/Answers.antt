use mathlib.Core.Path.{refl, sym}
use native.Mathlib.Omega.{arith}
use Rattle.numbers.specs.Field.{when}
use Rattle.layout.specs.Rule.{rule_of}
use Rattle.layout.specs.Canonical.{most, limit}
use Rattle.rounds.proofs.Boxes.{fits}
use Rattle.tx3g.specs.Tx3g.{kind, fields, from}
use Rattle.tx3g.proofs.read.Goals as goal

pub overflow_cast-result : goal.overflow_cast-result
unfolding limit most rule_of when
overflow_cast-result c =
    omega (arith, fits kind fields c.args.part.now 0 65535 _ (sym c.in_ok-got.ensures) refl)

pub overflow_cast-result-2 : goal.overflow_cast-result-2
unfolding limit most rule_of when
overflow_cast-result-2 c =
    omega (arith, fits kind fields c.args.part.now 1 4294967295 _ (sym c.in_ok-got.ensures) refl)

pub overflow_cast-result-3 : goal.overflow_cast-result-3
unfolding limit most rule_of when
overflow_cast-result-3 c =
    omega (arith, fits kind fields c.args.part.now 2 255 _ (sym c.in_ok-got.ensures) refl)

pub overflow_cast-result-4 : goal.overflow_cast-result-4
unfolding limit most rule_of when
overflow_cast-result-4 c =
    omega (arith, fits kind fields c.args.part.now 3 255 _ (sym c.in_ok-got.ensures) refl)

pub overflow_cast-result-5 : goal.overflow_cast-result-5
unfolding limit most rule_of when
overflow_cast-result-5 c =
    omega (arith, fits kind fields c.args.part.now 4 255 _ (sym c.in_ok-got.ensures) refl)

pub overflow_cast-result-6 : goal.overflow_cast-result-6
unfolding limit most rule_of when
overflow_cast-result-6 c =
    omega (arith, fits kind fields c.args.part.now 5 255 _ (sym c.in_ok-got.ensures) refl)

pub overflow_cast-result-7 : goal.overflow_cast-result-7
unfolding limit most rule_of when
overflow_cast-result-7 c =
    omega (arith, fits kind fields c.args.part.now 6 255 _ (sym c.in_ok-got.ensures) refl)

pub overflow_cast-result-8 : goal.overflow_cast-result-8
unfolding limit most rule_of when
overflow_cast-result-8 c =
    omega (arith, fits kind fields c.args.part.now 7 255 _ (sym c.in_ok-got.ensures) refl)

pub overflow_cast-result-9 : goal.overflow_cast-result-9
unfolding limit most rule_of when
overflow_cast-result-9 c =
    omega (arith, fits kind fields c.args.part.now 8 65535 _ (sym c.in_ok-got.ensures) refl)

pub overflow_cast-result-10 : goal.overflow_cast-result-10
unfolding limit most rule_of when
overflow_cast-result-10 c =
    omega (arith, fits kind fields c.args.part.now 9 65535 _ (sym c.in_ok-got.ensures) refl)

pub overflow_cast-result-11 : goal.overflow_cast-result-11
unfolding limit most rule_of when
overflow_cast-result-11 c =
    omega (arith, fits kind fields c.args.part.now 10 65535 _ (sym c.in_ok-got.ensures) refl)

pub overflow_cast-result-12 : goal.overflow_cast-result-12
unfolding limit most rule_of when
overflow_cast-result-12 c =
    omega (arith, fits kind fields c.args.part.now 11 65535 _ (sym c.in_ok-got.ensures) refl)

pub overflow_cast-result-13 : goal.overflow_cast-result-13
unfolding limit most rule_of when
overflow_cast-result-13 c =
    omega (arith, fits kind fields c.args.part.now 12 65535 _ (sym c.in_ok-got.ensures) refl)

pub overflow_cast-result-14 : goal.overflow_cast-result-14
unfolding limit most rule_of when
overflow_cast-result-14 c =
    omega (arith, fits kind fields c.args.part.now 13 65535 _ (sym c.in_ok-got.ensures) refl)

pub overflow_cast-result-15 : goal.overflow_cast-result-15
unfolding limit most rule_of when
overflow_cast-result-15 c =
    omega (arith, fits kind fields c.args.part.now 14 65535 _ (sym c.in_ok-got.ensures) refl)

pub overflow_cast-result-16 : goal.overflow_cast-result-16
unfolding limit most rule_of when
overflow_cast-result-16 c =
    omega (arith, fits kind fields c.args.part.now 15 255 _ (sym c.in_ok-got.ensures) refl)

pub overflow_cast-result-17 : goal.overflow_cast-result-17
unfolding limit most rule_of when
overflow_cast-result-17 c =
    omega (arith, fits kind fields c.args.part.now 16 255 _ (sym c.in_ok-got.ensures) refl)

pub overflow_cast-result-18 : goal.overflow_cast-result-18
unfolding limit most rule_of when
overflow_cast-result-18 c =
    omega (arith, fits kind fields c.args.part.now 17 255 _ (sym c.in_ok-got.ensures) refl)

pub overflow_cast-result-19 : goal.overflow_cast-result-19
unfolding limit most rule_of when
overflow_cast-result-19 c =
    omega (arith, fits kind fields c.args.part.now 18 255 _ (sym c.in_ok-got.ensures) refl)

pub overflow_cast-result-20 : goal.overflow_cast-result-20
unfolding limit most rule_of when
overflow_cast-result-20 c =
    omega (arith, fits kind fields c.args.part.now 19 255 _ (sym c.in_ok-got.ensures) refl)

pub overflow_cast-result-21 : goal.overflow_cast-result-21
unfolding limit most rule_of when
overflow_cast-result-21 c =
    omega (arith, fits kind fields c.args.part.now 20 255 _ (sym c.in_ok-got.ensures) refl)
