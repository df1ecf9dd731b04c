use mathlib.Core.Path.{ap, ◌∙◌}
use Rattle.std.specs.Prelude.{Err}
use Rattle.std.proofs.lemmas.Result.{err_from_is_err_and}
use Rattle.samples.specs.Records.{output}
use Rattle.kin.specs.Kin.{boxes}
use Rattle.audit.proofs.Recorded.{full}
use Rattle.opened.proofs.Told.{not-filled, by-fragments}
use Rattle.opened.proofs.by_fragments.Goals as goal

pub slice_bounds-fill-end : goal.slice_bounds-fill-end
slice_bounds-fill-end c =
    full 49152 0

pub slice_bounds-fill-end-2 : goal.slice_bounds-fill-end-2
slice_bounds-fill-end-2 c =
    full 12288 0

pub returns-in_err-filled : goal.returns-in_err-filled
returns-in_err-filled c =
    let p = err_from_is_err_and c.from_residual.result c.from_residual.ensures.1 in
    not-filled c.args.file.now (boxes c.args.starts.now c.args.sizes.now c.args.kinds.now c.args.parents.now c.args.placed.now) c.args.n c.args.place _ _ _ _ _ _ c.fill.ensures _ c.in_err-filled.was (ap (λ r. output r c.args.out.now) (p.1 ∙ ap Err p.2))

pub returns : goal.returns
returns c =
    by-fragments c.args.file.now (boxes c.args.starts.now c.args.sizes.now c.args.kinds.now c.args.parents.now c.args.placed.now) c.args.n c.args.place _ _ _ _ _ _ c.fill.ensures _ c.in_ok-filled.was c.by_trak.ensures
