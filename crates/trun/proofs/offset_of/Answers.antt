use Rattle.std.specs.Prelude.{Some}
use mathlib.Core.Path.{refl, sym, ap, ◌∙◌}
use mir.Facts.{to_z-of_z}
use Rattle.numbers.proofs.Chain.{by-true, by-false}
use Rattle.trun.proofs.offset_of.Goals as goal

pub returns-then-is_set : goal.returns-then-is_set
returns-then-is_set c =
    by-true _ _ _ _ (sym c.is_set.ensures ∙ c.if-is_set.true) (ap Some (to_z-of_z {w = mir.Syntax.w64} (record { sfits = c.signed_of.type_inv }) ∙ c.signed_of.ensures))

pub returns : goal.returns
returns c =
    by-false _ _ _ _ (sym c.is_set.ensures ∙ c.if-is_set.false) refl
