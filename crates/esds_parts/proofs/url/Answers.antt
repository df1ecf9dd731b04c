use mathlib.Core.Path.{sym, ap, ◌∙◌}
use native.Mathlib.Omega.{arith}
use Rattle.esds.specs.Esds.{span_of}
use Rattle.esds.proofs.Contents.{inside}
use Rattle.esds_parts.proofs.url.Goals as goal

pub slice_bounds-result-count : goal.slice_bounds-result-count
slice_bounds-result-count c =
    omega (arith, (inside _ _ c.args.part.now (sym c.read.ensures ∙ c.in-Ok.is)).url.0, (inside _ _ c.args.part.now (sym c.read.ensures ∙ c.in-Ok.is)).url.1)

pub slice_bounds-result-start : goal.slice_bounds-result-start
slice_bounds-result-start c =
    omega (arith, (inside _ _ c.args.part.now (sym c.read.ensures ∙ c.in-Ok.is)).url.0, (inside _ _ c.args.part.now (sym c.read.ensures ∙ c.in-Ok.is)).url.1)

pub slice_bounds-result-end-2 : goal.slice_bounds-result-end-2
slice_bounds-result-end-2 c =
    omega (arith, (inside _ _ c.args.part.now (sym c.read.ensures ∙ c.in-Ok.is)).url.0, (inside _ _ c.args.part.now (sym c.read.ensures ∙ c.in-Ok.is)).url.1)
