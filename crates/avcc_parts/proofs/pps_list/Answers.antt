use mathlib.Core.Path.{sym, ap, ◌∙◌}
use native.Mathlib.Omega.{arith}
use Rattle.avcc.specs.Avcc.{span_of}
use Rattle.avcc.proofs.Cases.{inside}
use Rattle.avcc_parts.proofs.pps_list.Goals as goal

pub slice_bounds-result-count : goal.slice_bounds-result-count
slice_bounds-result-count c =
    omega (arith, inside c.args.part.now _ _ (sym c.read.ensures ∙ c.in-Ok.is))

pub slice_bounds-result-start : goal.slice_bounds-result-start
slice_bounds-result-start c =
    omega (arith, inside c.args.part.now _ _ (sym c.read.ensures ∙ c.in-Ok.is))

pub slice_bounds-result-end-2 : goal.slice_bounds-result-end-2
slice_bounds-result-end-2 c =
    omega (arith, inside c.args.part.now _ _ (sym c.read.ensures ∙ c.in-Ok.is))
