use mathlib.Core.Path.{sym, ◌∙◌}
use native.Mathlib.Omega.{arith}
use Rattle.sampletable.proofs.Puts.{size_none, size-some, few-numbers, behind-few}
use Rattle.sampletable.proofs.size.Goals as goal

pub overflow_add-result : goal.overflow_add-result
overflow_add-result c =
    omega (arith, c.behind-more.ensures, behind-few c.args.table)

pub overflow_add-result-2 : goal.overflow_add-result-2
overflow_add-result-2 c =
    omega (arith, c.behind-more.ensures, behind-few c.args.table, c.listed-bytes.ensures, few-numbers c.args.table c.args.timescale c.args.records.now c.args.n, c.requires.counted)

pub returns : goal.returns
returns c =
    size-some c.args.table c.args.timescale c.args.records.now c.args.n (sym c.there.ensures ∙ c.if-not-there.false) _ _ c.behind-more.ensures c.listed-bytes.ensures
