use Rattle.chunking.proofs.Cases.{run_on, run-closed}
use Rattle.chunking_stsc.proofs.put_run.Goals as goal

pub returns-in-Closed : goal.returns-in-Closed
returns-in-Closed c =
    run-closed c.args.step c.args.group c.args.out.now _ _ _ _ _ c.in-Closed.is c.word.ensures c.word-in-Closed.ensures c.word-in-Closed-2.ensures
