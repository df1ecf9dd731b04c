-- Worked examples of the definitions, computed. Assumes nothing.
use Rattle.std.specs.Prelude.{Ok, Err}
use mathlib.Core.Path.{◌≡◌, refl}
use mathlib.Core.List.{[], ◌∷◌}
use lib.IntN.{negsuc}
use Rattle.numbers.specs.Number.{be}
use Rattle.numbers.specs.Field.{when, field}
use Rattle.signed.specs.Signed.{signed}

-- all ones are -1. (negsuc k is -1 - k.)
minus_one : signed 2 0xffff ≡ negsuc 0
unfolding when signed
minus_one = refl

-- the highest bit alone is the smallest, -2147483648
smallest : signed 4 0x8000_0000 ≡ negsuc 2147483647
unfolding when signed
smallest = refl

-- a field: -2 at 1
field-at-1 : field Err 2 (0 ∷ 0xff ∷ 0xfe ∷ []) 1 (λ n. Ok (signed 2 n)) ≡ Ok (negsuc 1)
unfolding be when field signed
field-at-1 = refl
