use mathlib.Core.Path.{refl, ◌∙◌}
use native.Mathlib.Omega.{arith}
use Rattle.numbers.proofs.Chain.{is_lt, not-lt}
use Rattle.boxes.proofs.Written.{as_one}
use Rattle.boxes.proofs.full.write.Goals as goal

pub returns-then-flags-lt16777216 : goal.returns-then-flags-lt16777216
returns-then-flags-lt16777216 c =
    is_lt _ _ _ _ _ c.if-flags-lt16777216.true (c.write.ensures ∙ as_one 1 3 c.args.version c.args.flags c.args.at c.args.out.now (omega arith) (omega arith) (omega arith))
