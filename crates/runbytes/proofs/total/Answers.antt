use Prim.Native.Nat.{◌-◌}
use mathlib.Core.Path.{refl, ◌∙◌}
use native.Mathlib.Omega.{arith}
use Rattle.runlookup.proofs.Counts.{sum-all, sum_over, sum-further, bytes-of-samples, end-over}
use Rattle.runlookup.proofs.Rows.{row_here, row-past, rows-past}
use Rattle.runlookup.specs.Lookup.{bytes_of_run, bytes_of_runs}
use Rattle.runtable.specs.Table.{rows_of}
use Rattle.samples.specs.Lists.{bytes_of}
use Rattle.runbytes.proofs.total.Goals as goal

pub loop-i-init : goal.loop-i-init
loop-i-init c =
    (omega (arith, bytes-of-samples c.args.file.now c.args.track 0 (rows_of c.args.table.now c.args.n)), omega arith)

pub returns-in_default : goal.returns-in_default
returns-in_default c =
    sum-all (bytes_of_run c.args.file.now c.args.track) (bytes_of_runs c.args.file.now c.args.track) refl (λ r rs. refl) _ _ _ c.loop-i.invariant.0 (row-past c.args.table.now c.args.n c.loop-i.i _ c.row.ensures c.in_default.is) c.loop-i.invariant.1

pub returns-in_err-sum : goal.returns-in_err-sum
returns-in_err-sum c =
    c.from_residual.ensures ∙ sum_over (bytes_of_run c.args.file.now c.args.track) (bytes_of_runs c.args.file.now c.args.track) refl (λ r rs. refl) _ _ _ c.loop-i.invariant.0 _ _ (row_here c.args.table.now c.args.n c.loop-i.i _ c.row.ensures c.loop-i-test.true _ c.in-Some.is) _ refl (end-over _ _ c.in_err-sum.ensures refl)

pub loop-i-preserved : goal.loop-i-preserved
loop-i-preserved c =
    sum-further (bytes_of_run c.args.file.now c.args.track) (bytes_of_runs c.args.file.now c.args.track) refl (λ r rs. refl) _ _ _ c.loop-i.invariant.0 _ _ (row_here c.args.table.now c.args.n c.loop-i.i _ c.row.ensures c.loop-i-test.true _ c.in-Some.is) _ c.in_ok-sum.ensures _ refl

pub returns : goal.returns
returns c =
    sum-all (bytes_of_run c.args.file.now c.args.track) (bytes_of_runs c.args.file.now c.args.track) refl (λ r rs. refl) _ _ _ c.loop-i.invariant.0 (rows-past c.args.table.now c.args.n c.loop-i.i c.loop-i-test.false) c.loop-i.invariant.1
