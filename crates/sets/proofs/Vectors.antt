-- Worked examples of the definitions, computed. Assumes nothing.
use Rattle.std.specs.Prelude.{Ok, Err}
use mathlib.Core.Path.{◌≡◌, refl}
use mathlib.Core.List.{List, [], ◌∷◌}
use mathlib.Core.Bool.{true, false}
use Prim.Native.Nat.{ℕ}
use lib.ListN.{replicate}
use Rattle.numbers.specs.Number.{be, bytes}
use Rattle.numbers.specs.Field.{field, when}
use Rattle.numbers.specs.declared.Refusal.TheVariants as refusal
use Rattle.put.specs.Put.{wrote}
use Rattle.sets.specs.Sets.{end_of, nth_of, filled_by, list_of, set_in}

-- two sets, of 3 bytes and of 1, with a byte before them and one after
abbrev two : List ℕ
two = 9 ∷ 0 ∷ 3 ∷ 0x67 ∷ 1 ∷ 2 ∷ 0 ∷ 1 ∷ 0x68 ∷ 9 ∷ []

two-end : end_of 2 two 1 ≡ Ok 9
unfolding be field when end_of
two-end = refl

-- the first is not the second
first-is : nth_of 0 two 1 ≡ 0x67 ∷ 1 ∷ 2 ∷ []
unfolding be field when end_of
first-is = refl

second_is : nth_of 1 two 1 ≡ 0x68 ∷ []
unfolding be field when end_of
second_is = refl

-- a third has half a length only: 1 where the length stands, and no bytes
third-cut : end_of 3 two 1 ≡ Err (refusal.Cut 9)
unfolding be field when end_of
third-cut = refl

third-is : nth_of 2 two 1 ≡ []
unfolding be field when end_of
third-is = refl

-- a set that is one byte short: 1 at its first byte, and no bytes of it
short : end_of 1 (0 ∷ 3 ∷ 0x67 ∷ 1 ∷ []) 0 ≡ Err (refusal.Cut 2)
unfolding be field when end_of
short = refl

short-is : nth_of 0 (0 ∷ 3 ∷ 0x67 ∷ 1 ∷ []) 0 ≡ []
unfolding be field when end_of
short-is = refl

-- a set may be empty, and a list too
empty-set : end_of 1 (0 ∷ 0 ∷ []) 0 ≡ Ok 2
unfolding be field when end_of
empty-set = refl

empty-list : end_of 0 [] 0 ≡ Ok 0
unfolding be field when end_of
empty-list = refl

-- a list is all of its sets: not one less, not one more, and no byte besides
filled : filled_by 2 (0 ∷ 1 ∷ 0x67 ∷ 0 ∷ 0 ∷ []) ≡ true
unfolding be field when end_of
filled = refl

filled-less : filled_by 1 (0 ∷ 1 ∷ 0x67 ∷ 0 ∷ 0 ∷ []) ≡ false
unfolding be field when end_of
filled-less = refl

filled_more : filled_by 3 (0 ∷ 1 ∷ 0x67 ∷ 0 ∷ 0 ∷ []) ≡ false
unfolding be field when end_of
filled_more = refl

-- the list of the two
list-is : list_of ((0x67 ∷ 1 ∷ 2 ∷ []) ∷ (0x68 ∷ []) ∷ []) ≡ 0 ∷ 3 ∷ 0x67 ∷ 1 ∷ 2 ∷ 0 ∷ 1 ∷ 0x68 ∷ []
unfolding bytes
list-is = refl

-- a set is put with its length; 12 with the length needed where there is no room, 9 where that is no number, and 13
-- where the length has no two bytes
put_is : set_in (0x68 ∷ []) 1 (replicate 5 9) ≡ wrote (Ok 4) (9 ∷ 0 ∷ 1 ∷ 0x68 ∷ 9 ∷ [])
unfolding bytes when
put_is = refl

put-no-room : set_in (0x68 ∷ []) 3 (replicate 5 9) ≡ wrote (Err (refusal.TooSmall 6)) (replicate 5 9)
unfolding bytes when
put-no-room = refl

put-no-number : set_in (0x68 ∷ []) 0xffff_ffff_ffff_fffe (replicate 5 9) ≡ wrote (Err refusal.Overflow) (replicate 5 9)
unfolding bytes when
put-no-number = refl

put-longest : set_in (replicate 65535 7) 0 [] ≡ wrote (Err (refusal.TooSmall 65537)) []
unfolding bytes when
put-longest = refl

put-too-long : set_in (replicate 65536 7) 0 [] ≡ wrote (Err refusal.Unwritable) []
unfolding bytes when
put-too-long = refl
