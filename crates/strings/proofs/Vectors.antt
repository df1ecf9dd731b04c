-- Worked examples of the definition, computed. Assumes nothing.
use Rattle.std.specs.Prelude.{Some, None}
use mathlib.Core.Path.{◌≡◌, refl}
use mathlib.Core.List.{[], ◌∷◌}
use Rattle.numbers.specs.Field.{when}
use Rattle.strings.specs.Text.{text_end, text_at}

-- the first 0 from the place on; the place itself; none behind it, and none past the end
first : text_at (0x61 ∷ 0x62 ∷ 0 ∷ 0 ∷ []) 0 ≡ Some 2
unfolding text_end when
first = refl

at_once : text_at (0x61 ∷ 0x62 ∷ 0 ∷ 0 ∷ []) 3 ≡ Some 3
unfolding text_end when
at_once = refl

cut : text_at (0 ∷ 0x61 ∷ 0x62 ∷ []) 1 ≡ None
unfolding text_end when
cut = refl

past_the_end : text_at (0 ∷ []) 2 ≡ None
unfolding text_end when
past_the_end = refl
