-- Worked examples of the definitions, computed. Assumes nothing.
use Rattle.std.specs.Prelude.{Ok, Err}
use mathlib.Core.Path.{◌≡◌, refl}
use mathlib.Core.List.{List, [], ◌∷◌, ◌++◌}
use mathlib.Core.Bool.{true, false}
use Prim.Native.Nat.{ℕ}
use lib.ListN.{length, replicate, take}
use Rattle.numbers.specs.Number.{be, bytes}
use Rattle.numbers.specs.Field.{field, when}
use Rattle.numbers.specs.declared.Refusal.TheVariants as refusal
use Rattle.put.specs.Put.{wrote}
use Rattle.asc.specs.Config as audio
use Rattle.descriptor.specs.Descriptor.{length_from, high, groups, head_by}
use Rattle.descriptors.specs.Descriptors.{seek_from}
use Rattle.decoderconfig.specs.DecoderConfig.{config, config_of, size_of, config_in}
use Rattle.decoderconfig.specs.declared.Config.{Config}

-- AAC of 128,000 bits a second: object type 0x40, audio, a reserved 1
abbrev aac : Config
aac = config 0x40 0x15 0 128000 128000 true

abbrev numbers : List ℕ
numbers = 0x40 ∷ 0x15 ∷ 0 ∷ 0 ∷ 0 ∷ 0 ∷ 1 ∷ 0xf4 ∷ 0 ∷ 0 ∷ 1 ∷ 0xf4 ∷ 0 ∷ []

info-read : config_of (9 ∷ numbers ++ (5 ∷ 2 ∷ 0x12 ∷ 0x10 ∷ [])) 1 ≡ Ok (aac, 16, 18)
unfolding be field when length_from head_by seek_from audio.bit_field audio.bits_of
info-read = refl

-- another descriptor stands before it, and one behind it
info-second : config_of (numbers ++ (19 ∷ 1 ∷ 7 ∷ 5 ∷ 2 ∷ 0x12 ∷ 0x10 ∷ 5 ∷ 0 ∷ [])) 0 ≡ Ok (aac, 18, 20)
unfolding be field when length_from head_by seek_from audio.bit_field audio.bits_of
info-second = refl

info-absent : config_of numbers 0 ≡ Ok (config 0x40 0x15 0 128000 128000 false, 0, 0)
unfolding be field when length_from head_by seek_from audio.bit_field audio.bits_of
info-absent = refl

-- an info ends inside its audio configuration, which goes before a fault behind it
info-cut : config_of (numbers ++ (5 ∷ 1 ∷ 0x12 ∷ 7 ∷ 1 ∷ [])) 0 ≡ Err (refusal.Cut 16)
unfolding be field when length_from head_by seek_from audio.bit_field audio.bits_of
info-cut = refl

info-empty : config_of (numbers ++ (5 ∷ 0 ∷ [])) 0 ≡ Err (refusal.Cut 15)
unfolding be field when length_from head_by seek_from audio.bit_field audio.bits_of
info-empty = refl

-- object type 31 and a frequency of its own take 43 bits
info-long : config_of (numbers ++ (5 ∷ 5 ∷ 0xf8 ∷ 0x1e ∷ 0 ∷ 0 ∷ 0 ∷ [])) 0 ≡ Err (refusal.Cut 20)
unfolding be field when length_from head_by seek_from audio.bit_field audio.bits_of
info-long = refl

-- a number is cut; the info passes the end; what stands behind the info does
cut-object : config_of [] 0 ≡ Err (refusal.Cut 0)
unfolding be field when length_from head_by seek_from audio.bit_field audio.bits_of
cut-object = refl

cut-stream : config_of (take 1 numbers) 0 ≡ Err (refusal.Cut 1)
unfolding be field when length_from head_by seek_from audio.bit_field audio.bits_of
cut-stream = refl

cut-buffer : config_of (take 4 numbers) 0 ≡ Err (refusal.Cut 2)
unfolding be field when length_from head_by seek_from audio.bit_field audio.bits_of
cut-buffer = refl

cut-max : config_of (take 8 numbers) 0 ≡ Err (refusal.Cut 5)
unfolding be field when length_from head_by seek_from audio.bit_field audio.bits_of
cut-max = refl

cut-avg : config_of (take 12 numbers) 0 ≡ Err (refusal.Cut 9)
unfolding be field when length_from head_by seek_from audio.bit_field audio.bits_of
cut-avg = refl

info-passes : config_of (numbers ++ (5 ∷ 3 ∷ 0x12 ∷ 0x10 ∷ [])) 0 ≡ Err (refusal.Cut 13)
unfolding be field when length_from head_by seek_from audio.bit_field audio.bits_of
info-passes = refl

later-passes : config_of (numbers ++ (5 ∷ 2 ∷ 0x12 ∷ 0x10 ∷ 7 ∷ 1 ∷ [])) 0 ≡ Err (refusal.Cut 17)
unfolding be field when length_from head_by seek_from audio.bit_field audio.bits_of
later-passes = refl

-- WRITING

size-with : size_of aac (0x12 ∷ 0x10 ∷ []) ≡ Ok 17
unfolding bytes when groups high audio.bit_field audio.bits_of
size-with = refl

size-without : size_of (config 0x40 0x15 0 128000 128000 false) [] ≡ Ok 13
unfolding bytes when groups high audio.bit_field audio.bits_of
size-without = refl

buffer-most : size_of (config 0x40 0x15 0xff_ffff 0 0 false) [] ≡ Ok 13
unfolding bytes when groups high audio.bit_field audio.bits_of
buffer-most = refl

buffer-past : size_of (config 0x40 0x15 0x100_0000 0 0 false) [] ≡ Err refusal.Unwritable
unfolding bytes when groups high audio.bit_field audio.bits_of
buffer-past = refl

info-without : size_of (config 0x40 0x15 0 0 0 false) (0x12 ∷ []) ≡ Err refusal.Unwritable
unfolding bytes when groups high audio.bit_field audio.bits_of
info-without = refl

info-not-whole : size_of aac (0x12 ∷ []) ≡ Err refusal.Unwritable
unfolding bytes when groups high audio.bit_field audio.bits_of
info-not-whole = refl

written : config_in aac (0x12 ∷ 0x10 ∷ []) 1 (replicate 19 9) ≡ wrote (Ok 18) (9 ∷ numbers ++ (5 ∷ 2 ∷ 0x12 ∷ 0x10 ∷ 9 ∷ []))
unfolding bytes when groups high audio.bit_field audio.bits_of
written = refl

not_written : config_in (config 0x40 0x15 0 0 0 false) (0x12 ∷ []) 0 (replicate 19 9) ≡ wrote (Err refusal.Unwritable) (replicate 19 9)
unfolding bytes when groups high audio.bit_field audio.bits_of
not_written = refl

no_room : config_in aac (0x12 ∷ 0x10 ∷ []) 3 (replicate 19 9) ≡ wrote (Err (refusal.TooSmall 20)) (replicate 19 9)
unfolding bytes when groups high audio.bit_field audio.bits_of
no_room = refl

no-sum : config_in aac (0x12 ∷ 0x10 ∷ []) 0xffff_ffff_ffff_fff8 (replicate 19 9) ≡ wrote (Err refusal.Overflow) (replicate 19 9)
unfolding bytes when groups high audio.bit_field audio.bits_of
no-sum = refl
