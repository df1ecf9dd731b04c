use Rattle.movie.proofs.Small.{none-asked, is-there, is-missing}
use Rattle.movie.proofs.is_fragmented.Goals as goal

pub returns-then-many-eq0 : goal.returns-then-many-eq0
returns-then-many-eq0 c =
    none-asked c.args.moofs.now c.args.many c.if-many-eq0.true

pub returns-in-Some : goal.returns-in-Some
returns-in-Some c =
    is-there c.args.moofs.now c.args.many _ c.row.ensures c.if-many-eq0.false _ c.in-Some.is

pub returns-in-None : goal.returns-in-None
returns-in-None c =
    is-missing c.args.moofs.now c.args.many _ c.row.ensures c.if-many-eq0.false c.in-None.is
