use mathlib.Core.Path.{sym, ◌∙◌}
use Rattle.sampletable.proofs.Whole.{sizes-unfit, durations-unfit, others-fit}
use Rattle.sampletable.proofs.fit.Goals as goal

pub returns-then-not-all_right : goal.returns-then-not-all_right
returns-then-not-all_right c =
    sizes-unfit c.args.records.now c.args.n (sym c.all_right.ensures ∙ c.if-not-all_right.true)

pub returns-then-not-all_right-2 : goal.returns-then-not-all_right-2
returns-then-not-all_right-2 c =
    durations-unfit c.args.records.now c.args.n (sym c.all_right.ensures ∙ c.if-not-all_right.false) (sym c.all_right-2.ensures ∙ c.if-not-all_right-2.true)

pub returns : goal.returns
returns c =
    c.all_right-3.ensures ∙ others-fit c.args.records.now c.args.n (sym c.all_right.ensures ∙ c.if-not-all_right.false) (sym c.all_right-2.ensures ∙ c.if-not-all_right-2.false)
