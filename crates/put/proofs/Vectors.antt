-- Worked examples of the definitions, computed. Assumes nothing.
use Rattle.std.specs.Prelude.{Ok, Err}
use mathlib.Core.Path.{◌≡◌, refl}
use mathlib.Core.List.{[], ◌∷◌}
use Prim.Native.Nat.{◌-◌, ◌^◌}
use Rattle.numbers.specs.Number.{bytes}
use Rattle.numbers.specs.Field.{when}
use Rattle.numbers.specs.declared.Refusal.TheVariants as refusal
use Rattle.put.specs.Put.{wrote, put_of}

-- 258 in two bytes at 1: the byte before and the one after stay
inside : put_of 2 258 1 (7 ∷ 7 ∷ 7 ∷ 7 ∷ []) ≡ wrote (Ok 3) (7 ∷ 1 ∷ 2 ∷ 7 ∷ [])
unfolding bytes when
inside = refl

-- 256 has no single byte: 13, and not 12, also where there is no room
no-such-byte : put_of 1 256 1 (7 ∷ []) ≡ wrote (Err refusal.Unwritable) (7 ∷ [])
unfolding when
no-such-byte = refl

-- four bytes do not go into three: 12, with the length that it takes
too_small : put_of 4 1 0 (7 ∷ 7 ∷ 7 ∷ []) ≡ wrote (Err (refusal.TooSmall 4)) (7 ∷ 7 ∷ 7 ∷ [])
unfolding when
too_small = refl

-- a length that is no 64-bit number: 9
too_far : put_of 1 1 (2 ^ 64 - 1) [] ≡ wrote (Err refusal.Overflow) []
unfolding when
too_far = refl
