use mathlib.Core.Path.{refl, sym}
use native.Mathlib.Omega.{arith}
use lib.Seq.{length-take-le}
use Rattle.numbers.specs.Field.{when}
use Rattle.layout.specs.Rule.{rule_of}
use Rattle.layout.specs.Canonical.{most, limit}
use Rattle.layout.proofs.Rests.{end-in}
use Rattle.rounds.proofs.Boxes.{fits}
use Rattle.trun.proofs.Counts.{by-cells}
use Rattle.trun.specs.Trun.{kind, fields, from, cells}
use Rattle.trun.proofs.read.Goals as goal

pub overflow_cast-trun : goal.overflow_cast-trun
unfolding limit most rule_of when
overflow_cast-trun c =
    omega (arith, fits kind fields c.args.part.now 0 1 _ (sym c.in_ok-got.ensures) refl)

pub overflow_cast-trun-2 : goal.overflow_cast-trun-2
unfolding limit most rule_of when
overflow_cast-trun-2 c =
    omega (arith, fits kind fields c.args.part.now 1 16777215 _ (sym c.in_ok-got.ensures) refl)

pub overflow_cast-trun-3 : goal.overflow_cast-trun-3
unfolding limit most rule_of when
overflow_cast-trun-3 c =
    omega (arith, fits kind fields c.args.part.now 2 4294967295 _ (sym c.in_ok-got.ensures) refl)

pub overflow_cast-trun-4 : goal.overflow_cast-trun-4
unfolding limit most rule_of when
overflow_cast-trun-4 c =
    omega (arith, fits kind fields c.args.part.now 3 4294967295 _ (sym c.in_ok-got.ensures) refl)

pub overflow_cast-trun-5 : goal.overflow_cast-trun-5
unfolding limit most rule_of when
overflow_cast-trun-5 c =
    omega (arith, fits kind fields c.args.part.now 4 4294967295 _ (sym c.in_ok-got.ensures) refl)

pub slice_bounds-first_cut-end : goal.slice_bounds-first_cut-end
slice_bounds-first_cut-end c =
    sym (length-take-le _ c.args.part.now (end-in kind fields c.args.part.now _ (sym c.in_ok-got.ensures)))
