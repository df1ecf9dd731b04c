use mathlib.Core.Path.{refl, ◌∙◌}
use Rattle.lanes.proofs.Cases.{run-used}
use Rattle.lanes.proofs.run_ready.Goals as goal

pub returns-then-c-eq0-clause-same : goal.returns-then-c-eq0-clause-same
returns-then-c-eq0-clause-same c =
    c.run_fill-f.ensures.same ∙ run-used _ _ c.if-c-eq0.true
