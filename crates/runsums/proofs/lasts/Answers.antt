use mathlib.Core.Path.{sym, ◌∙◌}
use native.Mathlib.Omega.{arith}
use Rattle.runsums.proofs.Sums.{product, durations-same}
use Rattle.runsums.proofs.lasts.Goals as goal

pub returns : goal.returns
returns c =
    durations-same c.args.file.now c.args.run (sym c.is_set.ensures ∙ c.if-is_set.false)
