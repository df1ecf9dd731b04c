use Prim.Native.Nat.{◌-◌}
use mathlib.Core.Path.{ap}
use native.Mathlib.Nat.{sub_self}
use native.Mathlib.Omega.{arith}
use Rattle.runlookup.proofs.Places.{walk_none, walk_here, walk-later}
use Rattle.runlookup.proofs.Rows.{row_here, row-past, rows-past}
use Rattle.runlookup.specs.Lookup.{place_in}
use Rattle.runtable.specs.Table.{rows_of}
use Rattle.runlookup.proofs.place_of.Goals as goal

pub returns-in_default : goal.returns-in_default
returns-in_default c =
    walk_none c.args.track c.args.skip c.loop-i.left _ _ c.loop-i.invariant.0 (row-past c.args.table.now c.args.n c.loop-i.i _ c.row.ensures c.in_default.is)

pub returns-then-left-own : goal.returns-then-left-own
returns-then-left-own c =
    walk_here c.args.track c.args.skip c.loop-i.left _ _ c.loop-i.invariant.0 _ _ (row_here c.args.table.now c.args.n c.loop-i.i _ c.row.ensures c.loop-i-test.true _ c.in-Some.is) _ c.count_of-own.ensures c.if-left-own.true

pub loop-i-preserved : goal.loop-i-preserved
loop-i-preserved c =
    (walk-later c.args.track c.args.skip c.loop-i.left _ _ c.loop-i.invariant.0 _ _ (row_here c.args.table.now c.args.n c.loop-i.i _ c.row.ensures c.loop-i-test.true _ c.in-Some.is) _ c.count_of-own.ensures c.if-left-own.false c.loop-i.invariant.1, omega (arith, c.loop-i.invariant.1))

pub returns : goal.returns
returns c =
    walk_none c.args.track c.args.skip c.loop-i.left _ _ c.loop-i.invariant.0 (rows-past c.args.table.now c.args.n c.loop-i.i c.loop-i-test.false)
