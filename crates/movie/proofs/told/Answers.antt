use Rattle.std.specs.Prelude.{Option}
use mathlib.Core.Path.{sym, ap}
use Rattle.movie.specs.Inside.{told_of}
use Rattle.movie.proofs.told.Goals as goal
use Rattle.verdicts.specs.declared.Finding.{Finding}

pub returns-in-Some : goal.returns-in-Some
returns-in-Some c =
    ap (λ (a : Option Finding). told_of a c.args.tracks c.args.samples c.args.media) (sym c.in-Some.is)

pub returns-in-None : goal.returns-in-None
returns-in-None c =
    ap (λ (a : Option Finding). told_of a c.args.tracks c.args.samples c.args.media) (sym c.in-None.is)
