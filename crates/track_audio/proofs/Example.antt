-- An mp4a for worked examples, with the boxes that are given; and an esds of 128,000 bits a second on average, with a
-- configuration that is given. Assumes nothing.
use mathlib.Core.List.{List, [], ◌∷◌, ◌++◌}
use Prim.Native.Nat.{ℕ, ◌+◌}
use lib.ListN.{length}
use Rattle.numbers.specs.Number.{bytes}
use Rattle.places.specs.Kinds as kinds
use Rattle.rounds.proofs.Example.{box}
use Rattle.children.proofs.Example.{of}

abbrev pub mp4a : List ℕ → List ℕ
mp4a boxes = of kinds.mp4a (bytes 8 1 ++ bytes 8 0 ++ bytes 4 0x0002_0010 ++ bytes 4 0 ++ bytes 4 0xbb80_0000 ++ boxes)

-- a descriptor of a tag
abbrev described : ℕ → List ℕ → List ℕ
described tag content = tag ∷ length content ∷ content

-- the esds of what stands behind its fields
abbrev pub esds : List ℕ → List ℕ
esds content = box kinds.esds 0 0 (described 3 (bytes 3 0 ++ content))

abbrev pub aac : List ℕ → List ℕ
aac info = esds (described 4 (0x40 ∷ 0x15 ∷ (bytes 3 0 ++ bytes 4 200000 ++ bytes 4 128000 ++ described 5 info)) ++ described 6 (2 ∷ []))
