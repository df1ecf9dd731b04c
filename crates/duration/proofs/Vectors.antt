-- Worked examples of the definitions, computed. Assumes nothing.
use Rattle.std.specs.Prelude.{Ok, Err}
use mathlib.Core.Path.{◌≡◌, refl}
use Rattle.numbers.specs.Field.{when}
use Rattle.numbers.specs.declared.Refusal.TheVariants as refusal
use Rattle.duration.specs.Duration.{micros_of}

-- case 5: timescale 1, duration 18,446,744,073,709 fits; one more is 9
case-5-fits : micros_of 18_446_744_073_709 1 ≡ Ok 18_446_744_073_709_000_000
unfolding when
case-5-fits = refl

case-5-one-more : micros_of 18_446_744_073_710 1 ≡ Err refusal.Overflow
unfolding when
case-5-one-more = refl

-- rounded down; and a timescale of 0 is 8, however long the duration
third : micros_of 1 3 ≡ Ok 333_333
unfolding when
third = refl

no-timescale : micros_of 18_446_744_073_710 0 ≡ Err (refusal.Value 0)
unfolding when
no-timescale = refl
