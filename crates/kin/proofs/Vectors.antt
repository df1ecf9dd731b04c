-- Worked examples of the definitions, computed; crates/contents has more of them, with the answers. Assumes nothing.
use mathlib.Core.Path.{◌≡◌, refl}
use mathlib.Core.List.{[], ◌∷◌}
use mathlib.Core.Bool.{true, false}
use lib.ListN.{replicate}
use Rattle.numbers.specs.Field.{when}
use Rattle.places.specs.Kinds.{trak, mdia, stco, co64}
use Rattle.kin.specs.Before.{some, sum}
use Rattle.kin.specs.Kin.{boxes, twice, crowded}

second : twice (boxes [] [] (mdia ∷ mdia ∷ []) (3 ∷ 3 ∷ []) (1 ∷ 1 ∷ [])) 1 ≡ true
unfolding when some
second = refl

-- in another parent
apart : twice (boxes [] [] (mdia ∷ mdia ∷ []) (2 ∷ 3 ∷ []) (1 ∷ 1 ∷ [])) 1 ≡ false
unfolding when some
apart = refl

both-forms : twice (boxes [] [] (stco ∷ co64 ∷ []) (3 ∷ 3 ∷ []) (1 ∷ 1 ∷ [])) 1 ≡ true
unfolding when some
both-forms = refl

fifth : crowded (boxes [] [] (replicate 5 trak) (replicate 5 1) (replicate 5 1)) 4 ≡ true
unfolding when sum
fifth = refl

fourth : crowded (boxes [] [] (replicate 5 trak) (replicate 5 1) (replicate 5 1)) 3 ≡ false
unfolding when sum
fourth = refl
