use Rattle.builder.proofs.Fills.{sync-none, sync-some}
use Rattle.builder_stss.proofs.put_sync.Goals as goal

pub returns-then-sync-eq0 : goal.returns-then-sync-eq0
returns-then-sync-eq0 c =
    sync-none c.args.sync c.args.number c.args.out.now c.args.k c.if-sync-eq0.true

pub returns : goal.returns
returns c =
    sync-some c.args.sync c.args.number c.args.out.now c.args.k _ c.if-sync-eq0.false c.word.ensures
