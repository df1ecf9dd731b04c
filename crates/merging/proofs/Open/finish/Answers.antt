use mathlib.Core.Path.{ap, ◌∙◌}
use Rattle.merging.proofs.Steps.{finish-none, finish-row}
use Rattle.merging.specs.declared.Step.TheVariants.{Longer, Closed}
use Rattle.merging.proofs.Open.finish.Goals as goal

pub returns-then-counted-eq0 : goal.returns-then-counted-eq0
returns-then-counted-eq0 c =
    ap Longer c.fresh.ensures ∙ finish-none c.args.self c.if-counted-eq0.true

pub returns : goal.returns
returns c =
    ap (Closed c.args.self) c.fresh-2.ensures ∙ finish-row c.args.self c.if-counted-eq0.false
