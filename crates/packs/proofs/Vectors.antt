-- Worked examples of the definition, computed. Assumes nothing.
use mathlib.Core.Path.{◌≡◌, refl}
use mathlib.Core.List.{List, [], ◌∷◌}
use Prim.Native.Nat.{ℕ}
use Rattle.numbers.specs.Number.{be}
use Rattle.numbers.specs.Field.{when, field}
use Rattle.packs.specs.Packs.{item_of}
use Rattle.packs.specs.declared.Item.TheVariants.{End, Cut, Is}

-- an item of two bytes, one of none, and one that says three and has two
abbrev three : List ℕ
three = 0 ∷ 0 ∷ 0 ∷ 2 ∷ 7 ∷ 8 ∷ 0 ∷ 0 ∷ 0 ∷ 0 ∷ 0 ∷ 0 ∷ 0 ∷ 3 ∷ 9 ∷ 9 ∷ []

whole : item_of three 0 ≡ Is 4 2
unfolding be field when
whole = refl

of-no-bytes : item_of three 6 ≡ Is 10 0
unfolding be field when
of-no-bytes = refl

cut : item_of three 10 ≡ Cut
unfolding be field when
cut = refl

-- three bytes are no length, and none are none
no_length : item_of three 13 ≡ End
unfolding be field when
no_length = refl

at-the-end : item_of three 16 ≡ End
unfolding be field when
at-the-end = refl

behind : item_of three 17 ≡ End
unfolding be field when
behind = refl

-- one that ends where the pack does, and a length whose highest byte counts
to_the_end : item_of (0 ∷ 0 ∷ 0 ∷ 1 ∷ 9 ∷ []) 0 ≡ Is 4 1
unfolding be field when
to_the_end = refl

large : item_of (1 ∷ 0 ∷ 0 ∷ 0 ∷ 9 ∷ []) 0 ≡ Cut
unfolding be field when
large = refl
