use mathlib.Core.Path.{refl}
use native.Mathlib.Omega.{arith}
use Rattle.kin.specs.Kin.{boxes}
use Rattle.opened.proofs.Place.{some, trak-most}
use Rattle.opened.proofs.Told.{no-trak, a-trak}
use Rattle.opened.proofs.by_trak.Goals as goal

pub returns-then-trak-eq0 : goal.returns-then-trak-eq0
returns-then-trak-eq0 c =
    no-trak _ _ _ _ _ _ _ c.trak_at-trak.ensures _ _ _ c.if-trak-eq0.true refl

pub by_tables-requires : goal.by_tables-requires
by_tables-requires c =
    (some _ c.if-trak-eq0.false, omega (arith, c.trak_at-trak.ensures, trak-most (boxes c.args.starts.now c.args.sizes.now c.args.kinds.now c.args.parents.now c.args.placed.now) c.args.n c.args.place))

pub returns : goal.returns
returns c =
    a-trak _ _ _ _ _ _ _ c.trak_at-trak.ensures _ _ _ c.if-trak-eq0.false c.by_tables.ensures
