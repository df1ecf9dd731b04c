-- Worked examples of the definition, computed. Assumes nothing.
use mathlib.Core.Path.{◌≡◌, refl}
use mathlib.Core.List.{[], ◌∷◌}
use Rattle.parts.specs.Parts.{part_of}

-- within, across the end, behind it
inner : part_of 1 2 (7 ∷ 8 ∷ 9 ∷ []) ≡ 8 ∷ 9 ∷ []
inner = refl

across : part_of 2 5 (7 ∷ 8 ∷ 9 ∷ []) ≡ 9 ∷ []
across = refl

behind : part_of 4 1 (7 ∷ 8 ∷ 9 ∷ []) ≡ []
behind = refl

none : part_of 1 0 (7 ∷ 8 ∷ 9 ∷ []) ≡ []
none = refl
