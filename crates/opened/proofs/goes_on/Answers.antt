use Rattle.opened.proofs.Place.{none, asked}
use Rattle.opened.proofs.goes_on.Goals as goal

pub returns-then-trak-eq0 : goal.returns-then-trak-eq0
returns-then-trak-eq0 c =
    none _ _ c.if-trak-eq0.true

pub returns : goal.returns
returns c =
    asked _ _ c.if-trak-eq0.false
