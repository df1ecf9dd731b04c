use mathlib.Core.Path.{sym, ap, ◌∙◌}
use Rattle.trun.specs.Trun.{entry_of}
use Rattle.runs.specs.Values.{own_of, or_zeros}
use Rattle.runs.proofs.own.Goals as goal

pub returns-in-Ok : goal.returns-in-Ok
unfolding own_of
returns-in-Ok c =
    ap or_zeros (sym c.in-Ok.is ∙ c.entry.ensures ∙ ap (λ b. entry_of c.args.run.trun b c.args.i) c.from.ensures)

pub returns-in-Err : goal.returns-in-Err
unfolding own_of
returns-in-Err c =
    ap or_zeros (sym c.in-Err.is ∙ c.entry.ensures ∙ ap (λ b. entry_of c.args.run.trun b c.args.i) c.from.ensures)
