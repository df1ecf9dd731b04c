use mathlib.Core.Path.{sym, ◌∙◌}
use Rattle.builder.proofs.Says.{common-empty, common-wide, common-is, common-not}
use Rattle.builder_stsz.proofs.common.Goals as goal

pub returns-then-n-eq0 : goal.returns-then-n-eq0
returns-then-n-eq0 c =
    common-empty c.args.records.now c.args.n c.if-n-eq0.true

pub returns-then-not-all_right : goal.returns-then-not-all_right
returns-then-not-all_right c =
    common-wide c.args.records.now c.args.n (sym c.all_right.ensures ∙ c.if-not-all_right.true)

pub returns-then-all_same : goal.returns-then-all_same
returns-then-all_same c =
    common-is c.args.records.now c.args.n c.if-n-eq0.false (sym c.all_right.ensures ∙ c.if-not-all_right.false) c.low-first.result c.low-first.ensures (sym c.all_same.ensures ∙ c.if-all_same.true)

pub returns : goal.returns
returns c =
    common-not c.args.records.now c.args.n c.if-n-eq0.false (sym c.all_right.ensures ∙ c.if-not-all_right.false) c.low-first.result c.low-first.ensures (sym c.all_same.ensures ∙ c.if-all_same.false)
