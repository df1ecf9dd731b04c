use Rattle.std.specs.Prelude.{Option}
use mathlib.Core.Path.{sym, ap}
use Rattle.movie.specs.Inside.{or_asked}
use Rattle.movie.proofs.or_else.Goals as goal
use Rattle.verdicts.specs.declared.Finding.{Finding}

pub returns-in-Some : goal.returns-in-Some
returns-in-Some c =
    ap (λ (a : Option Finding). or_asked a c.args.second) (sym c.in-Some.is)
