-- A pack, the form of this project's own in which the programs are handed many boxes in one file: items one behind the
-- other, each a length in four bytes, the most significant first, and as many bytes. Assumes nothing.
use Rattle.std.specs.Prelude.{ℕ, ◌+◌, List}
use Rattle.numbers.specs.Field.{when, fits, field}
use Rattle.packs.specs.declared.Item.{Item}
use Rattle.packs.specs.declared.Item.TheVariants.{End, Cut, Is}

-- where the bytes of the item at `at` begin, and how many they are: no item where its length is not whole, a cut one
-- where its bytes are not all there
abbrev pub item_of : List ℕ → ℕ → Item
item_of pack at = field (λ q. End) 4 pack at (λ n. when (fits n pack (at + 4)) (Is (at + 4) n) Cut)
