use Rattle.lists.proofs.Laws.{told, told_over, list_over, list-small, lists-all}
use Rattle.runtable.specs.Table.{rows_of}
use Rattle.fragments.specs.Samples.{samples_of_runs}
use Rattle.runlists.proofs.list.Goals as goal

pub returns-in_default : goal.returns-in_default
returns-in_default c =
    list_over (samples_of_runs c.args.file.now (rows_of c.args.table.now c.args.n) c.args.track) _ (told_over (samples_of_runs c.args.file.now (rows_of c.args.table.now c.args.n) c.args.track) _ c.count.ensures c.in_default.is)

pub returns-then-out-many : goal.returns-then-out-many
returns-then-out-many c =
    list-small (samples_of_runs c.args.file.now (rows_of c.args.table.now c.args.n) c.args.track) _ _ (told (samples_of_runs c.args.file.now (rows_of c.args.table.now c.args.n) c.args.track) _ _ c.count.ensures c.in-Some.is) c.if-out-many.true

pub returns : goal.returns
returns c =
    lists-all (samples_of_runs c.args.file.now (rows_of c.args.table.now c.args.n) c.args.track) _ _ _ c.fill.ensures.records (told (samples_of_runs c.args.file.now (rows_of c.args.table.now c.args.n) c.args.track) _ _ c.count.ensures c.in-Some.is) c.if-out-many.false
