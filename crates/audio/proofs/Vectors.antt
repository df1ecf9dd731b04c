-- Worked examples of the definitions, computed. Assumes nothing.
use Rattle.std.specs.Prelude.{Ok, Err}
use mathlib.Core.Path.{◌≡◌, refl}
use Rattle.numbers.specs.Field.{when}
use Rattle.numbers.specs.declared.Refusal.TheVariants as refusal
use Rattle.audio.specs.Objects.{object_type}
use Rattle.audio.specs.Frequencies.{frequency_of, place_of, index_of}
use Rattle.audio.specs.Channels.{configuration}

-- both sides of each border of the object types
first : object_type 1 ≡ Ok 1
unfolding when
first = refl

before-first : object_type 0 ≡ Err (refusal.Value 0)
unfolding when
before-first = refl

nine : object_type 9 ≡ Ok 9
unfolding when
nine = refl

ten : object_type 10 ≡ Err (refusal.Value 0)
unfolding when
ten = refl

eleven : object_type 11 ≡ Err (refusal.Value 0)
unfolding when
eleven = refl

twelve : object_type 12 ≡ Ok 12
unfolding when
twelve = refl

seventeen : object_type 17 ≡ Ok 17
unfolding when
seventeen = refl

eighteen : object_type 18 ≡ Err (refusal.Value 0)
unfolding when
eighteen = refl

nineteen : object_type 19 ≡ Ok 19
unfolding when
nineteen = refl

thirty : object_type 30 ≡ Ok 30
unfolding when
thirty = refl

escape : object_type 31 ≡ Err (refusal.Value 0)
unfolding when
escape = refl

thirty_two : object_type 32 ≡ Ok 32
unfolding when
thirty_two = refl

last : object_type 46 ≡ Ok 46
unfolding when
last = refl

past-last : object_type 47 ≡ Err (refusal.Value 0)
unfolding when
past-last = refl

-- the first frequency, the last, and the reserved index behind it
frequency-0 : frequency_of 0 ≡ Ok 96000
unfolding when
frequency-0 = refl

frequency-12 : frequency_of 12 ≡ Ok 7350
unfolding when
frequency-12 = refl

frequency-13 : frequency_of 13 ≡ Err (refusal.Value 0)
unfolding when
frequency-13 = refl

index-of-48000 : index_of 48000 ≡ Ok 3
unfolding place_of when
index-of-48000 = refl

index-of-7350 : index_of 7350 ≡ Ok 12
unfolding place_of when
index-of-7350 = refl

index-of-48001 : index_of 48001 ≡ Err (refusal.Value 0)
unfolding place_of when
index-of-48001 = refl

-- mono, 7.1, and both sides
no-configuration : configuration 0 ≡ Err (refusal.Value 0)
unfolding when
no-configuration = refl

mono : configuration 1 ≡ Ok 1
unfolding when
mono = refl

seven-one : configuration 7 ≡ Ok 7
unfolding when
seven-one = refl

eight : configuration 8 ≡ Err (refusal.Value 0)
unfolding when
eight = refl
