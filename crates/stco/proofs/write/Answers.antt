use Prim.Native.Nat.{◌*◌}
use mathlib.Core.Path.{refl}
use lib.ListN.{length}
use Rattle.numbers.proofs.Chain.{is_eq, is_ne}
use Rattle.stco.proofs.write.Goals as goal

pub returns-then-entries-size : goal.returns-then-entries-size
returns-then-entries-size c =
    is_ne _ _ _ (length c.args.entries.now) (c.args.stco.count * 4) c.if-entries-size.true refl

pub returns : goal.returns
returns c =
    is_eq _ _ _ (length c.args.entries.now) (c.args.stco.count * 4) c.if-entries-size.false c.by.ensures
