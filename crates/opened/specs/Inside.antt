-- What the code tells on its way. Assumes nothing.
use Rattle.std.specs.Prelude.{ℕ, Bool, false, not, eqb}
use Rattle.numbers.specs.Field.{when}

-- there is a trak, and one behind it is asked for
unfoldable pub goes_on : ℕ → ℕ → Bool
goes_on trak left = when (eqb trak 0) false (not (eqb left 0))
