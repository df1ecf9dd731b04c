-- Worked examples of the definitions, computed. Assumes nothing.
use mathlib.Core.Path.{◌≡◌, refl}
use mathlib.Core.List.{List, [], ◌∷◌}
use Prim.Native.Nat.{ℕ, ◌+◌}
use lib.IntN.{pos, negsuc}
use Rattle.numbers.specs.Number.{be}
use Rattle.numbers.specs.Field.{when, field, or_zero}
use Rattle.signed.specs.Signed.{signed}

abbrev nine : List ℕ
nine = 9 ∷ 0 ∷ 0 ∷ 1 ∷ 2 ∷ 0 ∷ 0 ∷ 0 ∷ 3 ∷ []

four-behind : or_zero 4 nine (0 + 1) ≡ 258
unfolding be when field
four-behind = refl

-- the file ends within the number
four-cut : or_zero 4 nine (2 + 4) ≡ 0
unfolding be when field
four-cut = refl

eight-whole : or_zero 8 nine (1 + 0) ≡ 1108101562371
unfolding be when field
eight-whole = refl

eight-cut : or_zero 8 nine (1 + 1) ≡ 0
unfolding be when field
eight-cut = refl

-- 2^31 - 1 is itself, and 2^31 is -2^31. (negsuc k is -1 - k.)
largest : signed 4 0x7fff_ffff ≡ pos 0x7fff_ffff
unfolding when signed
largest = refl

smallest : signed 4 0x8000_0000 ≡ negsuc 0x7fff_ffff
unfolding when signed
smallest = refl
