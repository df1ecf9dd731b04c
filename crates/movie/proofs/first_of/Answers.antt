use mathlib.Core.Path.{sym, ap}
use Rattle.movie.specs.Inside.{first_of}
use Rattle.movie.proofs.first_of.Goals as goal

pub returns-in-Found : goal.returns-in-Found
returns-in-Found c =
    ap first_of (sym c.in-Found.is)
