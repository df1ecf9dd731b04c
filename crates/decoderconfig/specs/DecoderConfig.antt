-- The content of a DecoderConfigDescriptor (ISO/IEC 14496-1, 7.2.6.6): five numbers, and descriptors up to its end, of
-- which the first DecoderSpecificInfo (tag 5, 7.2.6.7) is kept and the others are skipped by their lengths (A29). A number
-- that is cut is 1 at its first byte; an info that ends inside its audio configuration is 1 where it ends. The bytes end where the descriptor does. Assumes nothing.
use Rattle.std.specs.Prelude.{ℕ, ◌+◌, ◌^◌, List, [], ◌++◌, Bool, true, false, ◌&&◌, length, eqb, ltb, Result, Option, Ok, Err, Some, None}
use Rattle.std.specs.Result.{is_ok}
use Rattle.numbers.specs.Number.{bytes}
use Rattle.numbers.specs.Field.{field, when}
use Rattle.numbers.specs.declared.Refusal.TheVariants as refusal
use Rattle.put.specs.Put.{Wrote, wrote, placed}
use Rattle.asc.specs.Config as audio
use Rattle.descriptors.specs.Descriptors.{seek_of, span, descriptor_bytes}
use Rattle.decoderconfig.specs.declared.Config.{Config}
use Rattle.numbers.specs.declared.Refusal.{Refusal}
use Rattle.descriptors.specs.declared.Sought.{Sought}

-- READING

-- the object type, the stream's byte, the buffer's size and two bitrates
abbrev pub numbers_of : List ℕ → ℕ → Result (ℕ × ℕ × ℕ × ℕ × ℕ) Refusal
numbers_of s at =
    field Err 1 s at
    (λ o. field Err 1 s (at + 1)
    (λ t. field Err 3 s (at + 2)
    (λ z. field Err 4 s (at + 5)
    (λ x. field Err 4 s (at + 9) (λ a. Ok (o, t, z, x, a))))))

-- an info is there, and the heads behind it have no fault. No tag is 256.
abbrev pub later : ℕ → ℕ → Result (Option Sought) Refusal → Result (Option (ℕ × ℕ)) Refusal
later from to (Ok None) = Ok (Some (from, to))
later from to (Ok (Some next)) = Ok (Some (from, to))
later from to (Err q) = Err q

-- an info has the bytes of its audio configuration (ISO/IEC 14496-3, 1.6.2.1)
abbrev pub is_whole : List ℕ → Bool
is_whole i = is_ok (audio.config_of i)

abbrev pub info_by : List ℕ → Result (Option Sought) Refusal → Result (Option (ℕ × ℕ)) Refusal
info_by s (Ok None) = (Ok None)
info_by s (Ok (Some d)) = when (is_whole (span s d.from d.to)) (later d.from d.to (seek_of s d.to 256 256)) (Err (refusal.Cut d.to))
info_by s (Err q) = Err q

abbrev pub info_of : List ℕ → ℕ → Result (Option (ℕ × ℕ)) Refusal
info_of s at = info_by s (seek_of s at 5 5)

abbrev pub config : ℕ → ℕ → ℕ → ℕ → ℕ → Bool → Config
config o t z x a i =
    record { object_type_indication = o; stream = t; buffer_size = z; max_bitrate = x; avg_bitrate = a; has_info = i }

abbrev pub with_info : ℕ → ℕ → ℕ → ℕ → ℕ → Result (Option (ℕ × ℕ)) Refusal → Result (Config × ℕ × ℕ) Refusal
with_info o t z x a (Ok None) = Ok (config o t z x a false, 0, 0)
with_info o t z x a (Ok (Some (from, to))) = Ok (config o t z x a true, from, to)
with_info o t z x a (Err q) = Err q

abbrev pub with_numbers : List ℕ → ℕ → Result (ℕ × ℕ × ℕ × ℕ × ℕ) Refusal → Result (Config × ℕ × ℕ) Refusal
with_numbers s at (Ok (o, t, z, x, a)) = with_info o t z x a (info_of s (at + 13))
with_numbers s at (Err q) = Err q

abbrev pub config_of : List ℕ → ℕ → Result (Config × ℕ × ℕ) Refusal
config_of s at = with_numbers s at (numbers_of s at)

-- WRITING

-- each number has its bytes; an info is whole, and its length has four bytes at most; without one there are none of its
-- bytes
abbrev pub has : ℕ → ℕ → Bool
has w n = ltb n (256 ^ w)

abbrev pub sound : Config → List ℕ → Bool
sound c info =
    has 1 c.object_type_indication && has 1 c.stream && has 3 c.buffer_size && has 4 c.max_bitrate && has 4 c.avg_bitrate
    && when c.has_info (ltb (length info) (128 ^ 4) && is_whole info) (eqb (length info) 0)

abbrev pub number_bytes : Config → List ℕ
number_bytes c =
    bytes 1 c.object_type_indication ++ bytes 1 c.stream ++ bytes 3 c.buffer_size ++ bytes 4 c.max_bitrate ++ bytes 4 c.avg_bitrate

abbrev pub info_bytes : Bool → List ℕ → List ℕ
info_bytes there info = when there (descriptor_bytes 5 info) []

abbrev pub config_bytes : Config → List ℕ → List ℕ
config_bytes c info = number_bytes c ++ info_bytes c.has_info info

abbrev pub size_of : Config → List ℕ → Result ℕ Refusal
size_of c info = when (sound c info) (Ok (length (config_bytes c info))) (Err refusal.Unwritable)

abbrev pub config_in : Config → List ℕ → ℕ → List ℕ → Wrote
config_in c info at out =
    when (sound c info) (placed (config_bytes c info) (length (config_bytes c info)) at out) (wrote (Err refusal.Unwritable) out)
