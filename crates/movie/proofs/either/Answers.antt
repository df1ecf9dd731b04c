use Rattle.std.specs.Prelude.{Option}
use mathlib.Core.Path.{sym, ap}
use Rattle.movie.specs.Inside.{either}
use Rattle.movie.proofs.either.Goals as goal
use Rattle.verdicts.specs.declared.Finding.{Finding}

pub returns-in-None : goal.returns-in-None
returns-in-None c =
    ap (λ (a : Option Finding). either a c.args.x) (sym c.in-None.is)

pub returns-in-Some : goal.returns-in-Some
returns-in-Some c =
    ap (λ (a : Option Finding). either a c.args.x) (sym c.in-Some.is)
