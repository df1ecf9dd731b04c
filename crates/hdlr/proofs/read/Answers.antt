use mathlib.Core.Path.{refl, sym}
use native.Mathlib.Omega.{arith}
use Rattle.numbers.specs.Field.{when}
use Rattle.layout.specs.Rule.{rule_of}
use Rattle.layout.specs.Canonical.{most, limit}
use Rattle.rounds.proofs.Boxes.{fits}
use Rattle.hdlr.specs.Hdlr.{kind, fields, from}
use Rattle.hdlr.proofs.read.Goals as goal

pub overflow_cast-result : goal.overflow_cast-result
unfolding limit most rule_of when
overflow_cast-result c =
    omega (arith, fits kind fields c.args.part.now 0 0 _ (sym c.in_ok-got.ensures) refl)

pub overflow_cast-result-2 : goal.overflow_cast-result-2
unfolding limit most rule_of when
overflow_cast-result-2 c =
    omega (arith, fits kind fields c.args.part.now 1 16777215 _ (sym c.in_ok-got.ensures) refl)

pub overflow_cast-result-3 : goal.overflow_cast-result-3
unfolding limit most rule_of when
overflow_cast-result-3 c =
    omega (arith, fits kind fields c.args.part.now 2 4294967295 _ (sym c.in_ok-got.ensures) refl)
