use Prim.Native.Nat.{◌-◌}
use mathlib.Core.Path.{refl}
use native.Mathlib.Omega.{arith}
use Rattle.runlookup.proofs.Counts.{sum-all, sum-on, sum_over}
use Rattle.runlookup.proofs.Rows.{row_here, row-past, rows-past}
use Rattle.fragments.specs.Samples.{count_of, count_in}
use Rattle.runlookup.proofs.count.Goals as goal

pub returns-in_default : goal.returns-in_default
returns-in_default c =
    sum-all (count_of c.args.track) (count_in c.args.track) refl (λ r rs. refl) _ _ _ c.loop-i.invariant.0 (row-past c.args.table.now c.args.n c.loop-i.i _ c.row.ensures c.in_default.is) c.loop-i.invariant.1

pub returns-then-many-more : goal.returns-then-many-more
returns-then-many-more c =
    sum_over (count_of c.args.track) (count_in c.args.track) refl (λ r rs. refl) _ _ _ c.loop-i.invariant.0 _ _ (row_here c.args.table.now c.args.n c.loop-i.i _ c.row.ensures c.loop-i-test.true _ c.in-Some.is) _ c.count_of-more.ensures (omega (arith, c.if-many-more.true, c.loop-i.invariant.1))

pub loop-i-preserved : goal.loop-i-preserved
loop-i-preserved c =
    (sum-on (count_of c.args.track) (count_in c.args.track) refl (λ r rs. refl) _ _ _ c.loop-i.invariant.0 _ _ (row_here c.args.table.now c.args.n c.loop-i.i _ c.row.ensures c.loop-i-test.true _ c.in-Some.is) _ c.count_of-more.ensures, omega (arith, c.if-many-more.false, c.loop-i.invariant.1))

pub returns : goal.returns
returns c =
    sum-all (count_of c.args.track) (count_in c.args.track) refl (λ r rs. refl) _ _ _ c.loop-i.invariant.0 (rows-past c.args.table.now c.args.n c.loop-i.i c.loop-i-test.false) c.loop-i.invariant.1
