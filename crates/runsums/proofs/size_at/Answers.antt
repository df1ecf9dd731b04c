use mathlib.Core.Path.{ap, ◌∙◌}
use Rattle.trun.specs.declared.Sample.{Sample}
use Rattle.trun.specs.Trun.{size_bit}
use Rattle.layout.specs.Rule.{is_set}
use Rattle.numbers.specs.Field.{when}
use Rattle.runs.specs.Values.{size_at}
use Rattle.runsums.proofs.size_at.Goals as goal

pub returns : goal.returns
unfolding size_at
returns c =
    c.chosen.ensures ∙ ap (λ (x : Sample). when (is_set c.args.run.trun.flags size_bit) x.size c.args.run.size) c.own-mine.ensures
