use mathlib.Core.Path.{refl, sym}
use native.Mathlib.Omega.{arith}
use Rattle.numbers.specs.Field.{when}
use Rattle.layout.specs.Rule.{rule_of}
use Rattle.layout.specs.Canonical.{most, limit}
use Rattle.rounds.proofs.Boxes.{fits}
use Rattle.tkhd.specs.Tkhd.{kind, fields, from}
use Rattle.tkhd.proofs.read.Goals as goal

pub overflow_cast-result : goal.overflow_cast-result
unfolding limit most rule_of when
overflow_cast-result c =
    omega (arith, fits kind fields c.args.part.now 0 1 _ (sym c.in_ok-got.ensures) refl)

pub overflow_cast-result-2 : goal.overflow_cast-result-2
unfolding limit most rule_of when
overflow_cast-result-2 c =
    omega (arith, fits kind fields c.args.part.now 1 16777215 _ (sym c.in_ok-got.ensures) refl)

pub overflow_cast-result-3 : goal.overflow_cast-result-3
unfolding limit most rule_of when
overflow_cast-result-3 c =
    omega (arith, fits kind fields c.args.part.now 4 4294967295 _ (sym c.in_ok-got.ensures) refl)

pub overflow_cast-result-4 : goal.overflow_cast-result-4
unfolding limit most rule_of when
overflow_cast-result-4 c =
    omega (arith, fits kind fields c.args.part.now 6 65535 _ (sym c.in_ok-got.ensures) refl)

pub overflow_cast-result-5 : goal.overflow_cast-result-5
unfolding limit most rule_of when
overflow_cast-result-5 c =
    omega (arith, fits kind fields c.args.part.now 7 65535 _ (sym c.in_ok-got.ensures) refl)

pub overflow_cast-result-6 : goal.overflow_cast-result-6
unfolding limit most rule_of when
overflow_cast-result-6 c =
    omega (arith, fits kind fields c.args.part.now 8 65535 _ (sym c.in_ok-got.ensures) refl)

pub overflow_cast-result-7 : goal.overflow_cast-result-7
unfolding limit most rule_of when
overflow_cast-result-7 c =
    omega (arith, fits kind fields c.args.part.now 9 4294967295 _ (sym c.in_ok-got.ensures) refl)

pub overflow_cast-result-8 : goal.overflow_cast-result-8
unfolding limit most rule_of when
overflow_cast-result-8 c =
    omega (arith, fits kind fields c.args.part.now 10 4294967295 _ (sym c.in_ok-got.ensures) refl)

pub overflow_cast-result-9 : goal.overflow_cast-result-9
unfolding limit most rule_of when
overflow_cast-result-9 c =
    omega (arith, fits kind fields c.args.part.now 11 4294967295 _ (sym c.in_ok-got.ensures) refl)

pub overflow_cast-result-10 : goal.overflow_cast-result-10
unfolding limit most rule_of when
overflow_cast-result-10 c =
    omega (arith, fits kind fields c.args.part.now 12 4294967295 _ (sym c.in_ok-got.ensures) refl)

pub overflow_cast-result-11 : goal.overflow_cast-result-11
unfolding limit most rule_of when
overflow_cast-result-11 c =
    omega (arith, fits kind fields c.args.part.now 13 4294967295 _ (sym c.in_ok-got.ensures) refl)

pub overflow_cast-result-12 : goal.overflow_cast-result-12
unfolding limit most rule_of when
overflow_cast-result-12 c =
    omega (arith, fits kind fields c.args.part.now 14 4294967295 _ (sym c.in_ok-got.ensures) refl)

pub overflow_cast-result-13 : goal.overflow_cast-result-13
unfolding limit most rule_of when
overflow_cast-result-13 c =
    omega (arith, fits kind fields c.args.part.now 15 4294967295 _ (sym c.in_ok-got.ensures) refl)

pub overflow_cast-result-14 : goal.overflow_cast-result-14
unfolding limit most rule_of when
overflow_cast-result-14 c =
    omega (arith, fits kind fields c.args.part.now 16 4294967295 _ (sym c.in_ok-got.ensures) refl)

pub overflow_cast-result-15 : goal.overflow_cast-result-15
unfolding limit most rule_of when
overflow_cast-result-15 c =
    omega (arith, fits kind fields c.args.part.now 17 4294967295 _ (sym c.in_ok-got.ensures) refl)

pub overflow_cast-result-16 : goal.overflow_cast-result-16
unfolding limit most rule_of when
overflow_cast-result-16 c =
    omega (arith, fits kind fields c.args.part.now 18 4294967295 _ (sym c.in_ok-got.ensures) refl)

pub overflow_cast-result-17 : goal.overflow_cast-result-17
unfolding limit most rule_of when
overflow_cast-result-17 c =
    omega (arith, fits kind fields c.args.part.now 19 4294967295 _ (sym c.in_ok-got.ensures) refl)
