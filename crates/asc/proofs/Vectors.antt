-- Worked examples of the definitions, computed. Assumes nothing.
use Rattle.std.specs.Prelude.{Ok, Err}
use mathlib.Core.Path.{◌≡◌, refl}
use mathlib.Core.List.{[], ◌∷◌}
use mathlib.Core.Bool.{true, false}
use Prim.Native.Nat.{◌^◌}
use lib.ListN.{replicate}
use Rattle.numbers.specs.Number.{bytes}
use Rattle.numbers.specs.Field.{when}
use Rattle.numbers.specs.declared.Refusal.TheVariants as refusal
use Rattle.put.specs.Put.{wrote}
use Rattle.asc.specs.Config.{bits_of, bit_field, config, config_of, config_in, canonical}

-- case 3: 11 90 is type 2 at 48,000 in two channels, and 12 10 at 44,100
case-3 : config_of (0x11 ∷ 0x90 ∷ []) ≡ Ok (config 2 3 0 2)
unfolding bits_of bit_field when
case-3 = refl

case-3-index-4 : config_of (0x12 ∷ 0x10 ∷ []) ≡ Ok (config 2 4 0 2)
unfolding bits_of bit_field when
case-3-index-4 = refl

case-3-written : config_in (config 2 3 0 2) (7 ∷ 7 ∷ 7 ∷ []) ≡ wrote (Ok 2) (0x11 ∷ 0x90 ∷ 7 ∷ [])
unfolding bytes when
case-3-written = refl

-- these bytes are as we write them; not so with a bit behind the fields, nor with a byte more
case-3-canonical : canonical (0x11 ∷ 0x90 ∷ []) (config 2 3 0 2) ≡ true
unfolding bits_of when
case-3-canonical = refl

spare-bit : canonical (0x11 ∷ 0x91 ∷ []) (config 2 3 0 2) ≡ false
unfolding bits_of when
spare-bit = refl

byte_more : canonical (0x11 ∷ 0x90 ∷ 0 ∷ []) (config 2 3 0 2) ≡ false
unfolding bits_of when
byte_more = refl

-- what stands behind the channels is not read
behind : config_of (0x11 ∷ 0x97 ∷ 0xff ∷ []) ≡ Ok (config 2 3 0 2)
unfolding bits_of bit_field when
behind = refl

-- type 42 behind an escape: 11111 001010 0011 0010, and 5 bits more
escape : config_of (0xf9 ∷ 0x46 ∷ 0x40 ∷ []) ≡ Ok (config 42 3 0 2)
unfolding bits_of bit_field when
escape = refl

escape-written : config_in (config 42 3 0 2) (replicate 3 7) ≡ wrote (Ok 3) (0xf9 ∷ 0x46 ∷ 0x40 ∷ [])
unfolding bytes when
escape-written = refl

-- a frequency of its own, 0x012345: 00010 1111, 24 bits, 0010
own : config_of (0x17 ∷ 0x80 ∷ 0x91 ∷ 0xa2 ∷ 0x90 ∷ []) ≡ Ok (config 2 15 0x012345 2)
unfolding bits_of bit_field when
own = refl

own-written : config_in (config 2 15 0x012345 2) (replicate 5 7) ≡ wrote (Ok 5) (0x17 ∷ 0x80 ∷ 0x91 ∷ 0xa2 ∷ 0x90 ∷ [])
unfolding bytes when
own-written = refl

-- both: 11111 111111 1111, 24 bits, 1111
both : config_of (0xff ∷ 0xff ∷ 0xff ∷ 0xff ∷ 0xff ∷ 0xe0 ∷ []) ≡ Ok (config 95 15 0xff_ffff 15)
unfolding bits_of bit_field when
both = refl

both-written : config_in (config 95 15 0xff_ffff 15) (replicate 6 7) ≡ wrote (Ok 6) (0xff ∷ 0xff ∷ 0xff ∷ 0xff ∷ 0xff ∷ 0xe0 ∷ [])
unfolding bytes when
both-written = refl

-- the bytes end: in the type, the index, behind an escape, in a frequency, and before the channels
cut-0 : config_of [] ≡ Err (refusal.Cut 0)
unfolding bits_of bit_field when
cut-0 = refl

cut-1 : config_of (0x11 ∷ []) ≡ Err (refusal.Cut 1)
unfolding bits_of bit_field when
cut-1 = refl

cut-escape : config_of (0xf9 ∷ []) ≡ Err (refusal.Cut 1)
unfolding bits_of bit_field when
cut-escape = refl

cut-escape-channels : config_of (0xf9 ∷ 0x46 ∷ []) ≡ Err (refusal.Cut 2)
unfolding bits_of bit_field when
cut-escape-channels = refl

cut-own-2 : config_of (0x17 ∷ 0x80 ∷ []) ≡ Err (refusal.Cut 2)
unfolding bits_of bit_field when
cut-own-2 = refl

cut-own-4 : config_of (0x17 ∷ 0x80 ∷ 0x91 ∷ 0xa2 ∷ []) ≡ Err (refusal.Cut 4)
unfolding bits_of bit_field when
cut-own-4 = refl

cut-both : config_of (0xff ∷ 0xff ∷ 0xff ∷ 0xff ∷ 0xff ∷ []) ≡ Err (refusal.Cut 5)
unfolding bits_of bit_field when
cut-both = refl

-- a value that its field does not hold is 13, also where there is no room
no-31 : config_in (config 31 3 0 2) [] ≡ wrote (Err refusal.Unwritable) []
unfolding when
no-31 = refl

no-96 : config_in (config 96 3 0 2) [] ≡ wrote (Err refusal.Unwritable) []
unfolding when
no-96 = refl

no_index : config_in (config 2 16 0 2) [] ≡ wrote (Err refusal.Unwritable) []
unfolding when
no_index = refl

no-frequency : config_in (config 2 3 48000 2) [] ≡ wrote (Err refusal.Unwritable) []
unfolding when
no-frequency = refl

frequency-too-wide : config_in (config 2 15 (2 ^ 24) 2) [] ≡ wrote (Err refusal.Unwritable) []
unfolding when
frequency-too-wide = refl

no-channels : config_in (config 2 3 0 16) [] ≡ wrote (Err refusal.Unwritable) []
unfolding when
no-channels = refl

-- no room: 12 with the length needed
no_room : config_in (config 2 3 0 2) (7 ∷ []) ≡ wrote (Err (refusal.TooSmall 2)) (7 ∷ [])
unfolding when
no_room = refl

no-room-both : config_in (config 95 15 1 2) (replicate 5 7) ≡ wrote (Err (refusal.TooSmall 6)) (replicate 5 7)
unfolding when
no-room-both = refl
