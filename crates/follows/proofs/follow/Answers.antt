use Rattle.follows.specs.Follows.{numbers_in}
use Rattle.follows.proofs.Walked.{walk_of-numbers}
use Rattle.std.proofs.Common.{◌-◌, ◌∙◌}
use Rattle.follows.proofs.Steps.{moofs-done, moof-missing, moof-next}
use Rattle.follows.proofs.follow.Goals as goal

pub returns-in_default : goal.returns-in_default
returns-in_default c =
    moof-missing c.args.file.now c.args.runs.now c.args.rows (numbers_in c.args.numbers c.tracks-many.result) c.args.moofs.now c.args.n c.loop-i.i c.loop-i.some c.loop-i.due c.loop-i.befores c.loop-i.told _ c.loop-i.invariant _ c.row.ensures c.in_default.is ∙ walk_of-numbers c.args.file.now _ _ c.args.numbers c.args.count _ c.tracks-many.ensures

pub loop-i-preserved : goal.loop-i-preserved
loop-i-preserved c =
    moof-next c.args.file.now c.args.runs.now c.args.rows (numbers_in c.args.numbers c.tracks-many.result) c.args.moofs.now c.args.n c.loop-i.i c.loop-i.some c.loop-i.due c.loop-i.befores c.loop-i.told _ c.loop-i.invariant _ c.row.ensures c.loop-i-test.true _ c.in-Some.is _ c.last_row-to.ensures _ c.then_numbered-counted.ensures _ c.in_moof-all.ensures _ c.next_number-due.ensures

pub returns : goal.returns
returns c =
    moofs-done c.args.file.now c.args.runs.now c.args.rows (numbers_in c.args.numbers c.tracks-many.result) c.args.moofs.now c.args.n c.loop-i.i c.loop-i.some c.loop-i.due c.loop-i.befores c.loop-i.told _ c.loop-i.invariant c.loop-i-test.false ∙ walk_of-numbers c.args.file.now _ _ c.args.numbers c.args.count _ c.tracks-many.ensures
