use Rattle.std.specs.Prelude.{Ok}
use mathlib.Core.Path.{sym, ap, ◌∙◌}
use lib.Seq.{length-take-le}
use Rattle.decoderconfig.proofs.Configs.{found_in}
use Rattle.esds.proofs.tail_at.Goals as goal

pub slice_bounds-read-end : goal.slice_bounds-read-end
slice_bounds-read-end c =
    sym (length-take-le _ c.args.s.now (found_in c.args.s.now c.args.at 4 6 _ _ _ _ (sym c.in_ok-seek.ensures ∙ ap Ok c.in-Some.is)).1)
