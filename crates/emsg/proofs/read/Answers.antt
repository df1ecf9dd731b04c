use mathlib.Core.Path.{refl, sym}
use native.Mathlib.Omega.{arith}
use Rattle.numbers.specs.Field.{when}
use Rattle.layout.specs.Rule.{rule_of}
use Rattle.layout.specs.Canonical.{most, limit}
use Rattle.rounds.proofs.Boxes.{fits}
use Rattle.emsg.specs.Emsg.{kind, fields}
use Rattle.emsg.proofs.read.Goals as goal

pub overflow_cast-flags : goal.overflow_cast-flags
unfolding limit most rule_of when
overflow_cast-flags c =
    omega (arith, fits kind fields c.args.part.now 1 16777215 _ (sym c.in_ok-got.ensures) refl)
