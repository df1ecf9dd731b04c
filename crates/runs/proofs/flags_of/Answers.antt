use mathlib.Core.Path.{refl, sym, ◌∙◌}
use Rattle.runs.specs.Values.{flags_by}
use Rattle.numbers.proofs.Chain.{by-true, by-false, is_eq, is_ne}
use Rattle.runs.proofs.flags_of.Goals as goal

pub returns-then-is_set : goal.returns-then-is_set
unfolding flags_by
returns-then-is_set c =
    by-true _ _ _ _ (sym c.is_set.ensures ∙ c.if-is_set.true) refl

pub returns-then-i-eq0 : goal.returns-then-i-eq0
unfolding flags_by
returns-then-i-eq0 c =
    by-false _ _ _ _ (sym c.is_set.ensures ∙ c.if-is_set.false) (is_eq _ _ _ _ _ c.if-i-eq0.true c.chosen.ensures)

pub returns : goal.returns
unfolding flags_by
returns c =
    by-false _ _ _ _ (sym c.is_set.ensures ∙ c.if-is_set.false) (is_ne _ _ _ _ _ c.if-i-eq0.false refl)
