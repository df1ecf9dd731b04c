use mathlib.Core.Path.{sym, ap, ◌∙◌}
use native.Mathlib.Omega.{arith}
use Rattle.chunking.specs.declared.Step.TheVariants.{Longer, Closed}
use Rattle.chunking.specs.Chunking.{piece}
use Rattle.chunking.proofs.Cases.{has_room, step-first, step-closed, step-joined}
use Rattle.chunking.proofs.next.Goals as goal

pub returns-then-count-eq0 : goal.returns-then-count-eq0
returns-then-count-eq0 c =
    ap Longer c.only.ensures ∙ step-first c.args.timescale c.args.chunk (piece c.args.offset c.args.size c.args.duration) c.if-count-eq0.true

pub returns-then-not-joins : goal.returns-then-not-joins
returns-then-not-joins c =
    ap (Closed c.args.chunk) c.only-then-not-joins.ensures ∙ step-closed c.args.timescale c.args.chunk (piece c.args.offset c.args.size c.args.duration) c.if-count-eq0.false (sym c.joins.ensures ∙ c.if-not-joins.true)

pub overflow_add-result : goal.overflow_add-result
overflow_add-result c =
    omega (arith, (has_room c.args.timescale c.args.chunk c.args.offset (sym c.joins.ensures ∙ c.if-not-joins.false)).1)

pub overflow_add-result-2 : goal.overflow_add-result-2
overflow_add-result-2 c =
    omega (arith, (has_room c.args.timescale c.args.chunk c.args.offset (sym c.joins.ensures ∙ c.if-not-joins.false)).0)

pub returns : goal.returns
returns c =
    step-joined c.args.timescale c.args.chunk (piece c.args.offset c.args.size c.args.duration) c.if-count-eq0.false (sym c.joins.ensures ∙ c.if-not-joins.false)
