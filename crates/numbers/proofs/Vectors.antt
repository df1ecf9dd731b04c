-- Worked examples of the definitions, computed. Assumes nothing.
use Rattle.std.specs.Prelude.{Ok, Err}
use mathlib.Core.Path.{◌≡◌, refl}
use mathlib.Core.List.{[], ◌∷◌}
use Rattle.numbers.specs.Number.{be}
use Rattle.numbers.specs.Field.{when, field, number_of}
use Rattle.numbers.specs.declared.Refusal.TheVariants as refusal

-- the highest byte comes first
four_bytes : field Err 4 (0 ∷ 0 ∷ 1 ∷ 2 ∷ []) 0 Ok ≡ Ok 258
unfolding be when field
four_bytes = refl

-- a field that is cut at the end is refusal 1 at its position
cut-at-2 : field Err 3 (0 ∷ 0 ∷ 1 ∷ 2 ∷ []) 2 Ok ≡ Err (refusal.Cut 2)
unfolding be when field
cut-at-2 = refl

-- no bytes past the end are no number; nine bytes are 9
nothing-past-end : number_of 0 (7 ∷ []) 2 ≡ Err (refusal.Cut 2)
unfolding be when field
nothing-past-end = refl

too_wide : number_of 9 [] 0 ≡ Err refusal.Overflow
unfolding be when field
too_wide = refl
