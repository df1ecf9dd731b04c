-- Worked examples of the definitions, computed. Assumes nothing.
use Rattle.std.specs.Prelude.{Ok, Err}
use mathlib.Core.Path.{◌≡◌, refl}
use mathlib.Core.Bool.{true, false}
use Rattle.numbers.specs.Field.{when}
use Rattle.numbers.specs.declared.Refusal.TheVariants as refusal
use Rattle.vpformat.specs.Sampling.{depth_of, chroma_of, full_of, sampling_of}

-- the three numbers in a byte, and both sides of each limit
depth : depth_of 0xa3 ≡ 10
depth = refl

chroma : chroma_of 0xa3 ≡ 1
chroma = refl

full : full_of 0xa3 ≡ true
full = refl

narrow : full_of 0xa2 ≡ false
narrow = refl

together : sampling_of 10 1 true ≡ Ok 0xa3
unfolding when
together = refl

most : sampling_of 15 7 true ≡ Ok 255
unfolding when
most = refl

too-deep : sampling_of 16 0 false ≡ Err refusal.Unwritable
unfolding when
too-deep = refl

too_fine : sampling_of 8 8 false ≡ Err refusal.Unwritable
unfolding when
too_fine = refl
