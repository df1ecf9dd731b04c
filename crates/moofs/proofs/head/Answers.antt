use mathlib.Core.Path.{ap, ◌∙◌}
use Rattle.kin.specs.Kin.{boxes}
use Rattle.mfhd.specs.Mfhd.{mfhd_of}
use Rattle.trafs.proofs.Steps.{part-of}
use Rattle.moofs.proofs.head.Goals as goal

pub returns : goal.returns
returns c =
    c.read.ensures ∙ ap mfhd_of (part-of c.args.s.now _ (boxes c.args.starts.now c.args.sizes.now c.args.kinds.now c.args.parents.now c.args.placed.now) _ _ _ _ c.part.ensures c.of_box.ensures c.of_box-2.ensures c.child-p.ensures)
