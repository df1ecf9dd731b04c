use mathlib.Core.Path.{ap, ◌∙◌}
use mathlib.Core.List.{List}
use Rattle.samples.specs.declared.Sample.{Sample}
use Rattle.lookup.specs.Lookup.{sync_of}
use Rattle.runtable.specs.Table.{rows_of}
use Rattle.tracksamples.proofs.Cases.{by_runs, by-tables}
use Rattle.tracksamples.proofs.synced.Goals as goal

pub returns-then-source : goal.returns-then-source
returns-then-source c =
    c.is_sync.ensures ∙ ap (λ (l : List Sample). sync_of l c.args.number) (by_runs c.args.file.now c.args.source (rows_of c.args.runs.now c.args.rows) c.if-source.true)

pub returns : goal.returns
returns c =
    c.is_sync-2.ensures ∙ ap (λ (l : List Sample). sync_of l c.args.number) (by-tables c.args.file.now c.args.source (rows_of c.args.runs.now c.args.rows) c.if-source.false)
