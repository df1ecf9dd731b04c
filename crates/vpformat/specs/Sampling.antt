-- The byte of a vpcC that tells the bit depth in its 4 high bits, the chroma subsampling in 3 and the range in the last (VP
-- Codec ISO Media File Format Binding, version 1). Assumes nothing.
use Rattle.std.specs.Prelude.{ℕ, ◌+◌, ◌*◌, ◌/◌, ◌%◌, Bool, eqb, ltb, Result, Ok, Err}
use Rattle.numbers.specs.Field.{when}
use Rattle.numbers.specs.declared.Refusal.TheVariants as refusal
use Rattle.numbers.specs.declared.Refusal.{Refusal}

-- the bit depth, the chroma subsampling and the range flag, from the high end of their byte
abbrev pub depth_of : ℕ → ℕ
depth_of sampling = sampling / 16

abbrev pub chroma_of : ℕ → ℕ
chroma_of sampling = sampling / 2 % 8

abbrev pub full_of : ℕ → Bool
full_of sampling = eqb (sampling % 2) 1

-- and their byte: 4 bits, 3 bits, 1 bit
abbrev pub sampling_of : ℕ → ℕ → Bool → Result ℕ Refusal
sampling_of depth chroma full =
    when (ltb 15 depth) (Err refusal.Unwritable)
    (when (ltb 7 chroma) (Err refusal.Unwritable)
    (Ok (depth * 16 + chroma * 2 + when full 1 0)))
