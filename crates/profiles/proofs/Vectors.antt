-- Worked examples of the definitions, computed. Assumes nothing.
use Rattle.std.specs.Prelude.{Ok, Err}
use mathlib.Core.Path.{◌≡◌, refl}
use Rattle.numbers.specs.Field.{when}
use Rattle.numbers.specs.declared.Refusal.TheVariants as refusal
use Rattle.profiles.specs.Profiles.{profile_of}
use Rattle.profiles.specs.declared.Profile.TheVariants.{ConstrainedBaseline, Baseline, Main, Extended, High}

-- profile 66 with bit 0x40, without it, with 0x80 alone, and with all others
set-1 : profile_of 66 0x40 ≡ Ok ConstrainedBaseline
unfolding when
set-1 = refl

no-set : profile_of 66 0 ≡ Ok Baseline
unfolding when
no-set = refl

set-0 : profile_of 66 0x80 ≡ Ok Baseline
unfolding when
set-0 = refl

all-but-set-1 : profile_of 66 0xbf ≡ Ok Baseline
unfolding when
all-but-set-1 = refl

-- the bit says nothing of the others
main : profile_of 77 0x40 ≡ Ok Main
unfolding when
main = refl

extended : profile_of 88 0 ≡ Ok Extended
unfolding when
extended = refl

high : profile_of 100 0xff ≡ Ok High
unfolding when
high = refl

high-10 : profile_of 110 0 ≡ Err (refusal.Value 0)
unfolding when
high-10 = refl
