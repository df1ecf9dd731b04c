use mathlib.Core.Path.{sym, ap}
use Rattle.movie.specs.Inside.{last_of}
use Rattle.movie.proofs.last_of.Goals as goal

pub returns-in-Found : goal.returns-in-Found
returns-in-Found c =
    ap last_of (sym c.in-Found.is)
