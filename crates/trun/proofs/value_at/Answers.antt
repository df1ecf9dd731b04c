use mathlib.Core.Path.{refl, sym, ◌∙◌}
use Rattle.numbers.proofs.Chain.{by-true, by-false}
use Rattle.trun.specs.Trun.{optional}
use Rattle.trun.proofs.value_at.Goals as goal

pub returns-then-is_set : goal.returns-then-is_set
unfolding optional
returns-then-is_set c =
    by-true _ _ _ _ (sym c.is_set.ensures ∙ c.if-is_set.true) c.read.ensures

pub returns : goal.returns
unfolding optional
returns c =
    by-false _ _ _ _ (sym c.is_set.ensures ∙ c.if-is_set.false) refl
