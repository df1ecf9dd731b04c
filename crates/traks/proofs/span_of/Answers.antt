use Rattle.kin.specs.Kin.{boxes}
use Rattle.traks.proofs.Tells.{span-lies, no_span, a-span}
use native.Mathlib.Omega.{arith}
use Rattle.traks.proofs.span_of.Goals as goal

pub offset_bounds-starts-row : goal.offset_bounds-starts-row
offset_bounds-starts-row c =
    omega (arith, span-lies (boxes c.args.starts.now c.args.sizes.now c.args.kinds.now c.args.parents.now c.args.placed.now) c.args.n c.args.kind c.args.p _ c.child-row.ensures c.if-row-eq0.false)

pub bounds-starts-row : goal.bounds-starts-row
bounds-starts-row c =
    omega (arith, span-lies (boxes c.args.starts.now c.args.sizes.now c.args.kinds.now c.args.parents.now c.args.placed.now) c.args.n c.args.kind c.args.p _ c.child-row.ensures c.if-row-eq0.false)

pub offset_bounds-sizes-row : goal.offset_bounds-sizes-row
offset_bounds-sizes-row c =
    omega (arith, span-lies (boxes c.args.starts.now c.args.sizes.now c.args.kinds.now c.args.parents.now c.args.placed.now) c.args.n c.args.kind c.args.p _ c.child-row.ensures c.if-row-eq0.false)

pub bounds-sizes-row : goal.bounds-sizes-row
bounds-sizes-row c =
    omega (arith, span-lies (boxes c.args.starts.now c.args.sizes.now c.args.kinds.now c.args.parents.now c.args.placed.now) c.args.n c.args.kind c.args.p _ c.child-row.ensures c.if-row-eq0.false)
