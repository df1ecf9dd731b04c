-- Worked examples of the definitions, computed. Assumes nothing.
use Rattle.std.specs.Prelude.{Ok, Err, Some, None}
use mathlib.Core.Path.{◌≡◌, refl}
use mathlib.Core.List.{List, [], ◌∷◌, ◌++◌}
use Prim.Native.Nat.{ℕ}
use lib.ListN.{length, replicate}
use Rattle.numbers.specs.Number.{be}
use Rattle.numbers.specs.Field.{field, when}
use Rattle.numbers.specs.declared.Refusal.TheVariants as refusal
use Rattle.put.specs.Put.{wrote}
use Rattle.descriptor.specs.Descriptor.{length_from, high, groups, head_by}
use Rattle.descriptors.specs.Descriptors.{seek_from, seek_of, descriptor_in}
use Rattle.descriptors.specs.Descriptors.{sought_record}

-- tag 7 with two bytes, tag 5 with one, tag 6 with none
abbrev three : List ℕ
three = 7 ∷ 2 ∷ 1 ∷ 1 ∷ 5 ∷ 1 ∷ 9 ∷ 6 ∷ 0 ∷ []

first-skipped : seek_of three 0 5 5 ≡ Ok (Some (sought_record 5 4 6 7))
unfolding seek_from when field be length_from head_by
first-skipped = refl

either : seek_of three 0 4 6 ≡ Ok (Some (sought_record 6 7 9 9))
unfolding seek_from when field be length_from head_by
either = refl

from-a-place : seek_of three 7 5 6 ≡ Ok (Some (sought_record 6 7 9 9))
unfolding seek_from when field be length_from head_by
from-a-place = refl

-- a tag of 256: every head up to the end is tested
none : seek_of three 0 256 256 ≡ (Ok None)
unfolding seek_from when field be length_from head_by
none = refl

none_left : seek_of three 9 5 6 ≡ (Ok None)
unfolding seek_from when field be length_from head_by
none_left = refl

-- the one before it passes the parent; its length is cut; its length has a fifth byte
passes : seek_of (7 ∷ 8 ∷ 1 ∷ 1 ∷ 5 ∷ 1 ∷ 9 ∷ []) 0 5 5 ≡ Err (refusal.Cut 0)
unfolding seek_from when field be length_from head_by
passes = refl

cut : seek_of (7 ∷ 1 ∷ 1 ∷ 5 ∷ []) 0 5 5 ≡ Err (refusal.Cut 4)
unfolding seek_from when field be length_from head_by
cut = refl

too_long : seek_of (7 ∷ 128 ∷ 128 ∷ 128 ∷ 129 ∷ 1 ∷ 9 ∷ []) 0 5 5 ≡ Err (refusal.Value 1)
unfolding seek_from when field be length_from head_by
too_long = refl

-- a length in its long form is read
long-form : seek_of (7 ∷ 128 ∷ 128 ∷ 128 ∷ 1 ∷ 9 ∷ 5 ∷ 0 ∷ []) 0 5 5 ≡ Ok (Some (sought_record 5 6 8 8))
unfolding seek_from when field be length_from head_by
long-form = refl

written : descriptor_in 5 (1 ∷ 2 ∷ []) 1 (replicate 6 0) ≡ wrote (Ok 5) (0 ∷ 5 ∷ 2 ∷ 1 ∷ 2 ∷ 0 ∷ [])
unfolding when groups high
written = refl

no_room : descriptor_in 5 (1 ∷ 2 ∷ []) 3 (replicate 6 0) ≡ wrote (Err (refusal.TooSmall 7)) (replicate 6 0)
unfolding when groups high
no_room = refl

no-sum : descriptor_in 5 (1 ∷ 2 ∷ []) 0xffff_ffff_ffff_fffd (replicate 6 0) ≡ wrote (Err refusal.Overflow) (replicate 6 0)
unfolding when groups high
no-sum = refl
