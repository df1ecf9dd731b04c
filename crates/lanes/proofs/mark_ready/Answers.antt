use Rattle.lanes.proofs.Cases.{mark-there, mark-all, mark-past, mark-zero, mark-read}
use mathlib.Core.Path.{refl}
use native.Mathlib.Omega.{arith}
use Rattle.lanes.proofs.mark_ready.Goals as goal

pub returns-then-t-m-clause-ready : goal.returns-then-t-m-clause-ready
returns-then-t-m-clause-ready c =
    mark-past c.args.file.now c.args.o c.args.m _ c.in-Some.is (omega arith) c.if-t-m.true

pub returns-then-n-eq0-clause-ready : goal.returns-then-n-eq0-clause-ready
returns-then-n-eq0-clause-ready c =
    mark-zero c.args.file.now c.args.o c.args.m _ c.in-Some.is (omega arith) (omega arith) _ c.four-n.ensures c.if-n-eq0.true

pub returns-clause-same : goal.returns-clause-same
returns-clause-same c =
    mark-read c.args.file.now c.args.o c.args.m _ c.in-Some.is (omega arith) (omega arith) _ c.four-n.ensures c.if-n-eq0.false
