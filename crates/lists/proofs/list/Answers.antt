use Rattle.lists.proofs.Laws.{told, told_over, list_over, list-small, lists-all}
use Rattle.tables.specs.Samples.{samples_of}
use Rattle.lists.proofs.list.Goals as goal

pub returns-in_default : goal.returns-in_default
returns-in_default c =
    list_over (samples_of c.args.file.now c.args.track) _ (told_over (samples_of c.args.file.now c.args.track) _ c.count.ensures c.in_default.is)

pub returns-then-out-n : goal.returns-then-out-n
returns-then-out-n c =
    list-small (samples_of c.args.file.now c.args.track) _ _ (told (samples_of c.args.file.now c.args.track) _ _ c.count.ensures c.in-Some.is) c.if-out-n.true

pub returns : goal.returns
returns c =
    lists-all (samples_of c.args.file.now c.args.track) _ _ _ c.fill.ensures.records (told (samples_of c.args.file.now c.args.track) _ _ c.count.ensures c.in-Some.is) c.if-out-n.false
