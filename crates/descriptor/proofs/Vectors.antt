-- Worked examples of the definitions, computed. Assumes nothing.
use Rattle.std.specs.Prelude.{Ok, Err}
use mathlib.Core.Path.{◌≡◌, refl}
use mathlib.Core.List.{[], ◌∷◌}
use Prim.Native.Nat.{◌-◌, ◌^◌}
use lib.ListN.{replicate}
use Rattle.numbers.specs.Number.{be}
use Rattle.numbers.specs.Field.{field, when}
use Rattle.numbers.specs.declared.Refusal.TheVariants as refusal
use Rattle.put.specs.Put.{wrote}
use Rattle.descriptor.specs.Descriptor.{length_from, length_of, high, groups, length_bytes, length_in, head_by, head_of, head_in}
use Rattle.descriptor.specs.Descriptor.{head_record}
use Rattle.descriptor.specs.Descriptor.{length_record}

-- case 6: 81 00 is 128, and 127 is written as 7F
case-6-read : length_of (0x81 ∷ 0 ∷ []) 0 ≡ Ok (length_record 128 2)
unfolding length_from when
case-6-read = refl

case-6-written : length_in 127 0 (7 ∷ 7 ∷ []) ≡ wrote (Ok 1) (0x7f ∷ 7 ∷ [])
unfolding groups high when
case-6-written = refl

-- a long form, as some encoders write it
long-form : length_of (9 ∷ 0x80 ∷ 0x80 ∷ 0x80 ∷ 0x19 ∷ []) 1 ≡ Ok (length_record 25 5)
unfolding length_from when
long-form = refl

-- the largest length, and one that goes on after the fourth byte
largest : length_of (0xff ∷ 0xff ∷ 0xff ∷ 0x7f ∷ []) 0 ≡ Ok (length_record (2 ^ 28 - 1) 4)
unfolding length_from when
largest = refl

fifth : length_of (0xff ∷ 0xff ∷ 0xff ∷ 0xff ∷ 0 ∷ []) 0 ≡ Err (refusal.Value 0)
unfolding length_from when
fifth = refl

-- 8 also where the bytes end after the fourth
fifth-cut : length_of (7 ∷ 0x80 ∷ 0x80 ∷ 0x80 ∷ 0x80 ∷ []) 1 ≡ Err (refusal.Value 1)
unfolding length_from when
fifth-cut = refl

-- a length in which the bytes end, at its first byte
cut-0 : length_of (7 ∷ []) 1 ≡ Err (refusal.Cut 1)
unfolding length_from when
cut-0 = refl

cut-1 : length_of (7 ∷ 0x80 ∷ []) 1 ≡ Err (refusal.Cut 1)
unfolding length_from when
cut-1 = refl

cut-2 : length_of (7 ∷ 0x80 ∷ 0x80 ∷ []) 1 ≡ Err (refusal.Cut 1)
unfolding length_from when
cut-2 = refl

cut-3 : length_of (7 ∷ 0x80 ∷ 0x80 ∷ 0x80 ∷ []) 1 ≡ Err (refusal.Cut 1)
unfolding length_from when
cut-3 = refl

past : length_of (7 ∷ []) 9 ≡ Err (refusal.Cut 9)
unfolding length_from when
past = refl

-- how many bytes, on both sides of each border
two_bytes : length_bytes 128 ≡ 0x81 ∷ 0 ∷ []
unfolding groups high when
two_bytes = refl

two-bytes-last : length_bytes 16383 ≡ 0xff ∷ 0x7f ∷ []
unfolding groups high when
two-bytes-last = refl

three-bytes : length_bytes 16384 ≡ 0x81 ∷ 0x80 ∷ 0 ∷ []
unfolding groups high when
three-bytes = refl

three-bytes-last : length_bytes 2097151 ≡ 0xff ∷ 0xff ∷ 0x7f ∷ []
unfolding groups high when
three-bytes-last = refl

four_bytes : length_bytes 2097152 ≡ 0x81 ∷ 0x80 ∷ 0x80 ∷ 0 ∷ []
unfolding groups high when
four_bytes = refl

four-bytes-last : length_bytes (2 ^ 28 - 1) ≡ 0xff ∷ 0xff ∷ 0xff ∷ 0x7f ∷ []
unfolding groups high when
four-bytes-last = refl

-- 2 ^ 28 has no four bytes: 13, and not 12, also where there is no room
no-four : length_in (2 ^ 28) 0 [] ≡ wrote (Err refusal.Unwritable) []
unfolding when
no-four = refl

no_room : length_in 128 1 (7 ∷ 7 ∷ []) ≡ wrote (Err (refusal.TooSmall 3)) (7 ∷ 7 ∷ [])
unfolding when
no_room = refl

too_far : length_in 128 (2 ^ 64 - 2) [] ≡ wrote (Err refusal.Overflow) []
unfolding when
too_far = refl

-- a head, whose content ends where the parent does
whole : head_of (7 ∷ 4 ∷ 2 ∷ 8 ∷ 9 ∷ []) 1 ≡ Ok (head_record 4 3 5)
unfolding be field length_from head_by when
whole = refl

empty : head_of (6 ∷ 0 ∷ []) 0 ≡ Ok (head_record 6 2 2)
unfolding be field length_from head_by when
empty = refl

-- a content that passes the parent by a byte is 1 at the tag
passes : head_of (7 ∷ 4 ∷ 3 ∷ 8 ∷ 9 ∷ []) 1 ≡ Err (refusal.Cut 1)
unfolding be field length_from head_by when
passes = refl

-- a tag that is not there, and a length's own faults behind the tag
no-tag : head_of (7 ∷ []) 1 ≡ Err (refusal.Cut 1)
unfolding be field length_from head_by when
no-tag = refl

no_length : head_of (7 ∷ 4 ∷ []) 1 ≡ Err (refusal.Cut 2)
unfolding be field length_from head_by when
no_length = refl

length-too-long : head_of (4 ∷ 0x80 ∷ 0x80 ∷ 0x80 ∷ 0x80 ∷ 0 ∷ []) 0 ≡ Err (refusal.Value 1)
unfolding be field length_from head_by when
length-too-long = refl

-- a head that is written, and each refusal
head-written : head_in 3 128 1 (replicate 5 7) ≡ wrote (Ok 4) (7 ∷ 3 ∷ 0x81 ∷ 0 ∷ 7 ∷ [])
unfolding groups high when
head-written = refl

head-no-four : head_in 3 (2 ^ 28) 0 [] ≡ wrote (Err refusal.Unwritable) []
unfolding when
head-no-four = refl

head-no-room : head_in 3 127 1 (7 ∷ 7 ∷ []) ≡ wrote (Err (refusal.TooSmall 3)) (7 ∷ 7 ∷ [])
unfolding when
head-no-room = refl

head-too-far : head_in 3 127 (2 ^ 64 - 2) [] ≡ wrote (Err refusal.Overflow) []
unfolding when
head-too-far = refl
