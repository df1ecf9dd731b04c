use Rattle.audit.proofs.Answers.{answers-refused, answers}
use Rattle.audit.proofs.audit.Goals as goal

pub returns-in-Err : goal.returns-in-Err
returns-in-Err c =
    answers-refused c.args.file.now _ _ _ _ _ _ _ c.scan-scanned.ensures _ c.refusal.ensures _ c.in-Err.is

pub returns-in-Ok : goal.returns-in-Ok
returns-in-Ok c =
    answers c.args.file.now _ _ _ _ _ _ _ c.scan-scanned.ensures _ c.refusal.ensures c.in-Ok.is _ c.count_in.ensures _ c.by_fragments.ensures
