use mathlib.Core.Path.{ap, ◌∙◌}
use Rattle.chunking.specs.declared.Step.TheVariants.{Longer, Closed}
use Rattle.chunking.proofs.Cases.{finish-none, finish-chunk}
use Rattle.chunking.proofs.finish.Goals as goal

pub returns-then-counted-eq0 : goal.returns-then-counted-eq0
returns-then-counted-eq0 c =
    ap Longer c.none.ensures ∙ finish-none c.args.chunk c.if-counted-eq0.true

pub returns : goal.returns
returns c =
    ap (Closed c.args.chunk) c.none-2.ensures ∙ finish-chunk c.args.chunk c.if-counted-eq0.false
