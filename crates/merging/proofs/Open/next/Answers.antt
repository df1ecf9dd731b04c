use mathlib.Core.Path.{◌∙◌}
use Rattle.merging.proofs.Steps.{step-first, step_other, step-full, step-longer}
use Rattle.merging.proofs.Open.next.Goals as goal

pub returns-then-count-eq0 : goal.returns-then-count-eq0
returns-then-count-eq0 c =
    step-first c.args.self c.args.value c.if-count-eq0.true

pub returns-then-value-own : goal.returns-then-value-own
returns-then-value-own c =
    c.closed.ensures ∙ step_other c.args.self c.args.value c.if-count-eq0.false c.if-value-own.true

pub returns-then-count-ge-MOST : goal.returns-then-count-ge-MOST
returns-then-count-ge-MOST c =
    c.closed-then-count-ge-MOST.ensures ∙ step-full c.args.self c.args.value c.if-count-eq0.false c.if-value-own.false c.if-count-ge-MOST.true

pub returns : goal.returns
returns c =
    step-longer c.args.self c.args.value c.if-count-eq0.false c.if-value-own.false c.if-count-ge-MOST.false
