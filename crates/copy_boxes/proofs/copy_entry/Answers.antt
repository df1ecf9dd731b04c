use Rattle.std.proofs.Common.{sym, arith}
use Rattle.packs.proofs.Laws.{within}
use Rattle.copy_boxes.proofs.copy_entry.Goals as goal

pub overflow_add-result : goal.overflow_add-result
overflow_add-result g c = omega (arith, within c.args.pack.now c.args.at _ _ (sym c.in-Is.ensures))
