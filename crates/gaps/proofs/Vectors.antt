-- Worked examples, computed: case 7 of document 01, and the bounds. Assumes nothing.
use Rattle.std.specs.Prelude.{Some, None}
use Prim.Native.Nat.{◌^◌, ◌+◌, ◌-◌}
use mathlib.Core.Path.{◌≡◌, refl}
use lib.IntN.{pos, negsuc}
use Rattle.numbers.specs.Field.{when}
use Rattle.gaps.specs.Gaps.{gap_of}

-- tfdt 9,000, then 3 samples of 3,000: 18,000 is right, 17,999 has gap -1
pub case-7-right : gap_of 9000 9000 18000 ≡ Some (pos 0)
unfolding gap_of when
case-7-right = refl

pub case-7-gap : gap_of 9000 9000 17999 ≡ Some (negsuc 0)
unfolding gap_of when
case-7-gap = refl

case-later : gap_of 9000 9000 20000 ≡ Some (pos 2000)
unfolding gap_of when
case-later = refl

-- the farthest gap below 0, and one more
case-least : gap_of 0 (2 ^ 63) 0 ≡ Some (negsuc (2 ^ 63 - 1))
unfolding gap_of when
case-least = refl

case-over : gap_of 0 (2 ^ 63 + 1) 0 ≡ None
unfolding gap_of when
case-over = refl

-- a decode time of 2^63 is none
case-late : gap_of 0 0 (2 ^ 63) ≡ None
unfolding gap_of when
case-late = refl
