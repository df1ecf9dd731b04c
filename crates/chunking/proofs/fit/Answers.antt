use mathlib.Core.Path.{sym, ◌∙◌}
use Rattle.chunking.proofs.Cases.{fit-not, fit-by}
use Rattle.chunking.proofs.fit.Goals as goal

pub returns-then-not-all_right : goal.returns-then-not-all_right
returns-then-not-all_right c =
    fit-not c.args.records.now c.args.n (sym c.all_right.ensures ∙ c.if-not-all_right.true)

pub returns : goal.returns
returns c =
    fit-by c.args.records.now c.args.n c.all_right-2.result (sym c.all_right.ensures ∙ c.if-not-all_right.false) c.all_right-2.ensures
