use mathlib.Core.Path.{ap, ◌∙◌}
use mathlib.Core.List.{List}
use Rattle.samples.specs.declared.Sample.{Sample}
use Rattle.samples.specs.Records.{list_of}
use Rattle.runtable.specs.Table.{rows_of}
use Rattle.tracksamples.proofs.Cases.{by_runs, by-tables}
use Rattle.tracksamples.proofs.list.Goals as goal

pub returns-then-source : goal.returns-then-source
returns-then-source c =
    c.list.ensures ∙ ap (λ (l : List Sample). list_of l c.args.out.now) (by_runs c.args.file.now c.args.source (rows_of c.args.runs.now c.args.rows) c.if-source.true)

pub returns : goal.returns
returns c =
    c.list-2.ensures ∙ ap (λ (l : List Sample). list_of l c.args.out.now) (by-tables c.args.file.now c.args.source (rows_of c.args.runs.now c.args.rows) c.if-source.false)
