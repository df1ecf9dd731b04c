use mathlib.Core.Path.{refl, sym}
use Rattle.elst.proofs.Edits.{by-cells}
use native.Mathlib.Omega.{arith}
use lib.Seq.{length-take-le}
use Rattle.numbers.specs.Field.{when}
use Rattle.layout.specs.Rule.{rule_of}
use Rattle.layout.specs.Canonical.{most, limit}
use Rattle.layout.proofs.Rests.{end-in}
use Rattle.rounds.proofs.Boxes.{fits}
use Rattle.elst.specs.Elst.{kind, fields, from, judge}
use Rattle.elst.proofs.read.Goals as goal

pub overflow_cast-elst : goal.overflow_cast-elst
unfolding limit most rule_of when
overflow_cast-elst c =
    omega (arith, fits kind fields c.args.part.now 0 1 _ (sym c.in_ok-got.ensures) refl)

pub overflow_cast-elst-2 : goal.overflow_cast-elst-2
unfolding limit most rule_of when
overflow_cast-elst-2 c =
    omega (arith, fits kind fields c.args.part.now 1 16777215 _ (sym c.in_ok-got.ensures) refl)

pub overflow_cast-elst-3 : goal.overflow_cast-elst-3
unfolding limit most rule_of when
overflow_cast-elst-3 c =
    omega (arith, fits kind fields c.args.part.now 2 4294967295 _ (sym c.in_ok-got.ensures) refl)

pub slice_bounds-judge-end : goal.slice_bounds-judge-end
slice_bounds-judge-end c =
    sym (length-take-le _ c.args.part.now (end-in kind fields c.args.part.now _ (sym c.in_ok-got.ensures)))
