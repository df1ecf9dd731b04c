use Rattle.audit.proofs.Recorded.{full}
use Rattle.kin.specs.Kin.{boxes}
use Rattle.audit.proofs.Answers.{fragments-refused, opened-refused, opened}
use Rattle.audit.proofs.by_fragments.Goals as goal

pub slice_bounds-fill-end : goal.slice_bounds-fill-end
slice_bounds-fill-end c =
    full 49152 0

pub slice_bounds-fill-end-2 : goal.slice_bounds-fill-end-2
slice_bounds-fill-end-2 c =
    full 12288 0

pub returns-in-Err : goal.returns-in-Err
returns-in-Err c =
    opened-refused c.args.file.now (boxes c.args.starts.now c.args.sizes.now c.args.kinds.now c.args.parents.now c.args.placed.now) c.args.n _ (fragments-refused c.args.file.now (boxes c.args.starts.now c.args.sizes.now c.args.kinds.now c.args.parents.now c.args.placed.now) c.args.n _ _ _ c.fill.ensures _ c.in-Err.is)

pub returns-in-Ok : goal.returns-in-Ok
returns-in-Ok c =
    opened c.args.file.now (boxes c.args.starts.now c.args.sizes.now c.args.kinds.now c.args.parents.now c.args.placed.now) c.args.n _ _ _ c.fill.ensures _ c.in-Ok.is _ c.by_tracks.ensures
