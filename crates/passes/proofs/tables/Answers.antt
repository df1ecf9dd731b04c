use native.Mathlib.Omega.{arith}
use Rattle.passes.proofs.Pass.{pass-over, counted-few, pass-none, lasting-few, pass-size, pass-duration, pass-fine}
use Rattle.passes.proofs.tables.Goals as goal

pub returns-in_default : goal.returns-in_default
returns-in_default c =
    pass-over c.args.file.now c.args.track c.args.number _ c.count.ensures c.in_default.is

pub returns-then-n-eq0 : goal.returns-then-n-eq0
returns-then-n-eq0 c =
    pass-none c.args.file.now c.args.track c.args.number _ c.count.ensures _ c.in-Some.is c.if-n-eq0.true

pub overflow_cast-last : goal.overflow_cast-last
overflow_cast-last c =
    omega (arith, counted-few c.args.file.now c.args.track c.args.number _ c.count.ensures _ c.in-Some.is)

pub overflow_cast-n : goal.overflow_cast-n
overflow_cast-n c =
    omega (arith, counted-few c.args.file.now c.args.track c.args.number _ c.count.ensures _ c.in-Some.is)

pub overflow_add-sized : goal.overflow_add-sized
overflow_add-sized c =
    omega (arith, counted-few c.args.file.now c.args.track c.args.number _ c.count.ensures _ c.in-Some.is, lasting-few c.args.file.now c.args.track c.args.number _ c.count.ensures _ c.in-Some.is c.if-n-eq0.false _ _ c.before_empty-sized.ensures c.before_idle-lasting.ensures, c.if-sized-lasting.true)

pub returns-then-sized-lasting : goal.returns-then-sized-lasting
returns-then-sized-lasting c =
    pass-size c.args.file.now c.args.track c.args.number _ c.count.ensures _ c.in-Some.is c.if-n-eq0.false _ _ c.before_empty-sized.ensures c.before_idle-lasting.ensures _ c.if-sized-lasting.true c.finding.ensures

pub returns-then-lasting-last : goal.returns-then-lasting-last
returns-then-lasting-last c =
    pass-duration c.args.file.now c.args.track c.args.number _ c.count.ensures _ c.in-Some.is c.if-n-eq0.false _ _ c.before_empty-sized.ensures c.before_idle-lasting.ensures _ c.if-sized-lasting.false c.if-lasting-last.true c.finding-then-lasting-last.ensures

pub returns : goal.returns
returns c =
    pass-fine c.args.file.now c.args.track c.args.number _ c.count.ensures _ c.in-Some.is c.if-n-eq0.false _ _ c.before_empty-sized.ensures c.before_idle-lasting.ensures c.if-sized-lasting.false c.if-lasting-last.false
