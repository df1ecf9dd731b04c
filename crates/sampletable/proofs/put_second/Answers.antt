use mathlib.Core.Path.{sym, ◌∙◌}
use native.Mathlib.Omega.{arith}
use Rattle.sampletable.proofs.Puts.{second_none, second-some}
use Rattle.sampletable.proofs.put_second.Goals as goal

pub returns-then-behind-eq0 : goal.returns-then-behind-eq0
returns-then-behind-eq0 c =
    second_none c.args.table c.args.n c.args.out.now c.args.at (sym c.behind.ensures ∙ c.if-behind-eq0.true)

pub returns : goal.returns
returns c =
    second-some c.args.table c.args.n c.args.out.now _ c.args.at c.write.result (λ z. c.if-behind-eq0.false (c.behind.ensures ∙ z)) c.requires (omega arith) c.write.ensures
