use mathlib.Core.Path.{refl, sym}
use native.Mathlib.Omega.{arith}
use lib.Seq.{length-take-le}
use Rattle.numbers.specs.Field.{when}
use Rattle.layout.specs.Rule.{rule_of}
use Rattle.layout.specs.Canonical.{most, limit}
use Rattle.layout.proofs.Rests.{end-in}
use Rattle.rounds.proofs.Boxes.{fits}
use Rattle.esds.specs.Esds.{kind, fields}
use Rattle.esds.proofs.read.Goals as goal

pub slice_bounds-stream_at-end : goal.slice_bounds-stream_at-end
slice_bounds-stream_at-end c =
    sym (length-take-le _ c.args.part.now (end-in kind fields c.args.part.now _ (sym c.in_ok-got.ensures)))

pub overflow_cast-v : goal.overflow_cast-v
unfolding limit most rule_of when
overflow_cast-v c =
    omega (arith, fits kind fields c.args.part.now 1 16777215 _ (sym c.in_ok-got.ensures) refl)
