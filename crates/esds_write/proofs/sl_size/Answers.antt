use native.Mathlib.Omega.{arith}
use lib.ListN.{length}
use Rattle.descriptor.proofs.Laws.{size-least}
use Rattle.esds_write.proofs.Puts.{sl-long, sl-sized, sl-empty, sl-full}
use Rattle.esds_write.proofs.sl_size.Goals as goal

pub returns-then-there : goal.returns-then-there
returns-then-there c =
    sl-sized c.args.there c.args.sl.now c.if-there.true (omega (arith, c.if-sl-ge268435456.false)) _ c.length_size.ensures
