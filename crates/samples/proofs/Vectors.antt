-- Worked examples of the definitions: a sample as a record, and what a list of samples answers. Assumes nothing.
use Rattle.std.specs.Prelude.{Ok, Err}
use mathlib.Core.Path.{◌≡◌, refl}
use mathlib.Core.List.{[], ◌∷◌}
use mathlib.Core.Bool.{true, false}
use lib.ListN.{replicate}
use lib.IntN.{pos, negsuc}
use Rattle.numbers.specs.Field.{when}
use Rattle.numbers.specs.declared.Refusal.TheVariants as refusal
use Rattle.samples.specs.Lists.{held, lookup_of, bytes_of}
use Rattle.samples.specs.Records.{put_of, output, list_of}
use Rattle.samples.specs.declared.Sample.{Sample}

-- its composition offset is -2
abbrev sample : Sample
sample = record { number = 2; offset = 58; size = 20; time = 1000; duration = 1000; composition = negsuc 1; sync = true }

-- it ends at 2^64 - 1, and its time is 2^63 - 1: both are the last that fit
abbrev last : Sample
last = record { number = 3; offset = 0xffff_ffff_ffff_fff0; size = 15; time = 0x7fff_ffff_ffff_ffff; duration = 1; composition = pos 0; sync = false }

-- a byte more, or a tick later
abbrev long : Sample
long = record { number = 3; offset = 0xffff_ffff_ffff_fff0; size = 16; time = 0; duration = 1; composition = pos 0; sync = false }

abbrev late : Sample
late = record { number = 3; offset = 0; size = 16; time = 0x8000_0000_0000_0000; duration = 1; composition = pos 0; sync = false }

case-last : held last ≡ true
case-last = refl

case-long : held long ≡ false
case-long = refl

case-late : held late ≡ false
case-late = refl

-- record 1 is behind the first seven numbers
case-put : put_of (replicate 15 9) 1 sample ≡ 9 ∷ 9 ∷ 9 ∷ 9 ∷ 9 ∷ 9 ∷ 9 ∷ 2 ∷ 58 ∷ 20 ∷ 1000 ∷ 1000 ∷ 0xffff_ffff_ffff_fffe ∷ 1 ∷ 9 ∷ []
unfolding put_of when
case-put = refl

case-no-room : put_of (replicate 13 9) 1 sample ≡ replicate 13 9
unfolding put_of when
case-no-room = refl

case-list : list_of (sample ∷ last ∷ []) (replicate 14 9)
    ≡ output (Ok 2) (2 ∷ 58 ∷ 20 ∷ 1000 ∷ 1000 ∷ 0xffff_ffff_ffff_fffe ∷ 1 ∷ 3 ∷ 0xffff_ffff_ffff_fff0 ∷ 15 ∷ 0x7fff_ffff_ffff_ffff ∷ 1 ∷ 0 ∷ 0 ∷ [])
unfolding when
case-list = refl

-- 9 comes before 12
case-list-long : list_of (sample ∷ long ∷ []) [] ≡ output (Err refusal.Overflow) []
unfolding when
case-list-long = refl

case-list-small : list_of (sample ∷ last ∷ []) (replicate 13 9) ≡ output (Err (refusal.TooSmall 2)) (replicate 13 9)
unfolding when
case-list-small = refl

-- the second of two is found, though the first does not fit; a third is not there, nor is a zeroth
case-second : lookup_of (long ∷ sample ∷ []) 2 ≡ Ok (record { offset = 58; size = 20; time = 1000; duration = 1000; composition = negsuc 1 })
unfolding lookup_of when
case-second = refl

case-first : lookup_of (long ∷ sample ∷ []) 1 ≡ Err refusal.Overflow
unfolding lookup_of when
case-first = refl

case-third : lookup_of (long ∷ sample ∷ []) 3 ≡ Err (refusal.NoSample 3)
unfolding lookup_of when
case-third = refl

case-zeroth : lookup_of (long ∷ sample ∷ []) 0 ≡ Err (refusal.NoSample 0)
unfolding lookup_of when
case-zeroth = refl

case-bytes : bytes_of (sample ∷ last ∷ []) ≡ 35
case-bytes = refl
