use mathlib.Core.Path.{refl, sym, ◌∙◌}
use Prim.Native.Nat.{◌-◌}
use Rattle.columns.proofs.Cells.{all_end, all_more, all-stop}
use Rattle.columns.proofs.all_right.Goals as goal

pub returns-then-not-right : goal.returns-then-not-right
returns-then-not-right c =
    all-stop c.args.rule c.args.records.now c.args.n c.args.column c.loop-i.i c.cell-x.result c.loop-i-test.true c.cell-x.ensures (sym c.right.ensures ∙ c.if-not-right.true) ∙ c.loop-i.invariant

pub loop-i-preserved : goal.loop-i-preserved
loop-i-preserved c =
    all_more c.args.rule c.args.records.now c.args.n c.args.column c.loop-i.i c.cell-x.result c.loop-i-test.true c.cell-x.ensures (sym c.right.ensures ∙ c.if-not-right.false) ∙ c.loop-i.invariant

pub returns : goal.returns
returns c =
    all_end c.args.rule c.args.records.now c.args.n c.args.column c.loop-i.i c.loop-i-test.false ∙ c.loop-i.invariant
