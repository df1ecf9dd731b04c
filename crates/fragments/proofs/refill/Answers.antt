use Prim.Native.Nat.{◌-◌}
use mathlib.Core.Path.{refl}
use Rattle.fragments.proofs.Cases.{rows-done, row-missing, row_one, row-over, row-passed}
use Rattle.fragments.proofs.refill.Goals as goal

pub returns-in_default : goal.returns-in_default
returns-in_default c =
    row-missing c.args.file.now c.args.table.now c.args.count c.args.track c.args.number c.loop-i.i _ c.loop-i.invariant _ c.row.ensures c.in_default.is

pub returns-in-One : goal.returns-in-One
returns-in-One c =
    row_one c.args.file.now c.args.table.now c.args.count c.args.track c.args.number c.loop-i.i _ c.loop-i.invariant _ c.row.ensures c.loop-i-test.true _ c.in-Some.is _ c.first.ensures.sample c.first.ensures.number _ _ c.in-One.is

pub returns-in-Over : goal.returns-in-Over
returns-in-Over c =
    row-over c.args.file.now c.args.table.now c.args.count c.args.track c.args.number c.loop-i.i _ c.loop-i.invariant _ c.row.ensures c.loop-i-test.true _ c.in-Some.is _ c.first.ensures.sample c.first.ensures.number c.in-Over.is

pub loop-i-preserved : goal.loop-i-preserved
loop-i-preserved c =
    row-passed c.args.file.now c.args.table.now c.args.count c.args.track c.args.number c.loop-i.i _ c.loop-i.invariant _ c.row.ensures c.loop-i-test.true _ c.in-Some.is _ c.first.ensures.sample c.first.ensures.number c.in-End.is

pub returns : goal.returns
returns c =
    rows-done c.args.file.now c.args.table.now c.args.count c.args.track c.args.number c.loop-i.i _ c.loop-i.invariant c.loop-i-test.false
