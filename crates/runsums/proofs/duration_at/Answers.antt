use mathlib.Core.Path.{ap, ◌∙◌}
use Rattle.trun.specs.declared.Sample.{Sample}
use Rattle.trun.specs.Trun.{duration_bit}
use Rattle.layout.specs.Rule.{is_set}
use Rattle.numbers.specs.Field.{when}
use Rattle.runs.specs.Values.{duration_at}
use Rattle.runsums.proofs.duration_at.Goals as goal

pub returns : goal.returns
unfolding duration_at
returns c =
    c.chosen.ensures ∙ ap (λ (x : Sample). when (is_set c.args.run.trun.flags duration_bit) x.duration c.args.run.duration) c.own-mine.ensures
