use Rattle.audit.proofs.Gather.{none, room}
use Rattle.audit.proofs.more.Goals as goal

pub returns-then-trak-eq0 : goal.returns-then-trak-eq0
returns-then-trak-eq0 c =
    none c.args.trak c.args.count c.if-trak-eq0.true

pub returns : goal.returns
returns c =
    room c.args.trak c.args.count c.if-trak-eq0.false
