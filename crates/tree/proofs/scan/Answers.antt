use mathlib.Core.Path.{refl, ap, ◌∙◌}
use Rattle.numbers.proofs.Chain.{is_lt, not-lt}
use Rattle.tree.specs.Tables.{puts, recorded}
use Rattle.tree.proofs.scan.Goals as goal

pub returns-then-s-gt-FILE_LIMIT : goal.returns-then-s-gt-FILE_LIMIT
unfolding puts
returns-then-s-gt-FILE_LIMIT c =
    ap (recorded _ 0) (is_lt _ _ _ _ _ c.if-s-gt-FILE_LIMIT.true refl)
