use mathlib.Core.Path.{sym, ap, ◌∙◌}
use native.Mathlib.Omega.{arith}
use Rattle.places.specs.Kinds.{tkhd}
use Rattle.keys.specs.Key.{key_of}
use Rattle.contents.specs.Held.{number_in}
use Rattle.traks.proofs.Tells.{key_fits}
use Rattle.traks.proofs.number_at.Goals as goal

pub overflow_cast-result : goal.overflow_cast-result
overflow_cast-result c =
    omega (arith, key_fits _ _ _ _ c.find.ensures c.in-Some.is)
