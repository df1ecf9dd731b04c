-- The first fields of an AudioSpecificConfig (ISO/IEC 14496-3, 1.6.2.1): audioObjectType in 5 bits, or 31 and 6 bits more
-- that count from 32; samplingFrequencyIndex in 4 bits, and behind 15 the frequency in 24; channelConfiguration in 4.
-- Bits count from the highest of the first byte. Only whether the bytes are there is tested: 1 at the first one that is
-- not (A29). What is written ends with its byte, in bits of 0; 13 where a field does not hold its value. Assumes nothing.
use Rattle.std.specs.Prelude.{ℕ, zero, suc, ◌+◌, ◌-◌, ◌*◌, ◌/◌, ◌%◌, ◌^◌, List, Bool, false, length, get_or, eqb, leb, ltb, Result, Ok, Err}
use Rattle.numbers.specs.Number.{bytes}
use Rattle.numbers.specs.Field.{when}
use Rattle.numbers.specs.declared.Refusal.TheVariants as refusal
use Rattle.numbers.specs.declared.Refusal.{Refusal}
use Rattle.put.specs.Put.{Wrote, wrote, placed}
use Rattle.asc.specs.declared.Config.{Config}

-- READING

abbrev pub bit_of : List ℕ → ℕ → ℕ
bit_of s i = get_or s (i / 8) 0 / 2 ^ (7 - i % 8) % 2

-- the number in n bits from bit i on
unfoldable pub bits_of : ℕ → List ℕ → ℕ → ℕ
bits_of zero s i = 0
bits_of (suc n) s i = bit_of s i * 2 ^ n + bits_of n s (suc i)

-- that number, and on with it; or 1 at the first byte that is not there
unfoldable pub bit_field : {A : Type 0} → (Refusal → A) → ℕ → List ℕ → ℕ → (ℕ → A) → A
bit_field refused n s i go = when (leb (i + n) (8 * length s)) (go (bits_of n s i)) (refused (refusal.Cut (length s)))

abbrev pub config : ℕ → ℕ → ℕ → ℕ → Config
config t f r c = record { object_type = t; frequency_index = f; frequency = r; channels = c }

abbrev pub channels_of : List ℕ → ℕ → ℕ → ℕ → ℕ → Result Config Refusal
channels_of s i t f r = bit_field Err 4 s i (λ c. Ok (config t f r c))

abbrev pub rate_of : List ℕ → ℕ → ℕ → Result Config Refusal
rate_of s i t =
    bit_field Err 4 s i (λ f. when (eqb f 15) (bit_field Err 24 s (i + 4) (λ r. channels_of s (i + 28) t 15 r)) (channels_of s (i + 4) t f 0))

abbrev pub config_of : List ℕ → Result Config Refusal
config_of s = bit_field Err 5 s 0 (λ t. when (eqb t 31) (bit_field Err 6 s 5 (λ x. rate_of s 11 (32 + x))) (rate_of s 5 t))

-- WRITING

-- each field holds its value
abbrev pub has_form : ℕ → ℕ → ℕ → ℕ → Bool
has_form t f r c =
    when (eqb t 31) false
    (when (ltb 95 t) false (when (ltb 15 f) false (when (ltb 15 c) false (when (eqb f 15) (ltb r (2 ^ 24)) (eqb r 0)))))

-- how many bits the type and the frequency have, and their number
abbrev pub type_width : ℕ → ℕ
type_width t = when (ltb t 32) 5 11

abbrev pub type_number : ℕ → ℕ
type_number t = when (ltb t 32) t (31 * 2 ^ 6 + (t - 32))

abbrev pub rate_width : ℕ → ℕ
rate_width f = when (eqb f 15) 28 4

abbrev pub rate_number : ℕ → ℕ → ℕ
rate_number f r = when (eqb f 15) (15 * 2 ^ 24 + r) f

-- all of them, and in how many bytes
abbrev pub width : ℕ → ℕ → ℕ
width t f = type_width t + rate_width f + 4

abbrev pub number : ℕ → ℕ → ℕ → ℕ → ℕ
number t f r c = (type_number t * 2 ^ rate_width f + rate_number f r) * 2 ^ 4 + c

abbrev pub size : ℕ → ℕ → ℕ
size t f = (width t f + 7) / 8

-- the bits behind the fields, up to the byte's end
abbrev pub spare : ℕ → ℕ → ℕ
spare t f = 8 * size t f - width t f

abbrev pub field_bytes : ℕ → ℕ → ℕ → ℕ → List ℕ
field_bytes t f r c = bytes (size t f) (number t f r c * 2 ^ spare t f)

abbrev pub size_for : Config → ℕ
size_for x = size x.object_type x.frequency_index

abbrev pub config_bytes : Config → List ℕ
config_bytes x = field_bytes x.object_type x.frequency_index x.frequency x.channels

abbrev pub config_in : Config → List ℕ → Wrote
config_in x out =
    when (has_form x.object_type x.frequency_index x.frequency x.channels) (placed (config_bytes x) (size_for x) 0 out)
    (wrote (Err refusal.Unwritable) out)

-- bytes that were read are as we write them: no more than the fields need, and 0 behind the fields
abbrev pub canonical : List ℕ → Config → Bool
canonical s x =
    when (eqb (length s) (size_for x))
    (eqb (bits_of (spare x.object_type x.frequency_index) s (width x.object_type x.frequency_index)) 0) false
