use mathlib.Core.Path.{◌∙◌}
use mir.Facts.{to_z-of_z}
use Rattle.numbers.proofs.Chain.{is_eq, is_ne}
use Rattle.trun.proofs.Signs.{wide}
use Rattle.trun.proofs.composition_of.Goals as goal

pub returns-then-version-eq0 : goal.returns-then-version-eq0
returns-then-version-eq0 c =
    is_eq _ _ _ c.args.version 0 c.if-version-eq0.true (wide c.args.n c.ranges.n.fits)

pub returns : goal.returns
returns c =
    is_ne _ _ _ c.args.version 0 c.if-version-eq0.false (to_z-of_z {w = mir.Syntax.w64} (record { sfits = c.signed_of.type_inv }) ∙ c.signed_of.ensures)
