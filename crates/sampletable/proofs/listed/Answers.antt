use mathlib.Core.Path.{◌∙◌}
use Rattle.sampletable.specs.SampleTable.{list_of}
use Rattle.sampletable.proofs.Cases.{ready-placed, told-length}
use Rattle.sampletable.proofs.listed.Goals as goal

pub returns : goal.returns
returns c =
    told-length (list_of c.args.table c.args.timescale c.args.records.now c.args.n) _ _ c.entries-answer.result _ (c.entries-answer.ensures ∙ ready-placed c.args.timescale c.args.records.now c.args.n c.requires _ c.args.table) c.told.ensures
