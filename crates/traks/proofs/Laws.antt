-- The traks of a file, one after the other. Assumes nothing.
use mathlib.Core.Path.{◌≡◌}
use mathlib.Core.List.{[], ◌∷◌}
use Prim.Native.Nat.{ℕ, ◌<◌, ◌≤◌, min}
use Rattle.places.specs.Visit.{box_limit}
use Rattle.places.specs.Kinds.{moov, trak}
use Rattle.kin.specs.Kin.{Boxes}
use Rattle.inside.specs.Inside.{inside_of, child}
use Rattle.inside.proofs.Laws as inside
use Rattle.traks.specs.Traks.{next_trak}

-- the answer r of `next` from row `from` on: 0 where there are no more; else the first, and the others from row r on
module _ (t : Boxes) (n from r : ℕ) (e : r ≡ next_trak t n from) where
  pub next-none : r ≡ 0 → inside_of t n trak (child t n moov 0) from ≡ []
  next-none h = inside.next-none t trak (child t n moov 0) n from r e h

  pub next_more : (r ≡ 0 → ⊥) → inside_of t n trak (child t n moov 0) from ≡ r ∷ inside_of t n trak (child t n moov 0) r
  next_more o = inside.next_more t trak (child t n moov 0) n from r e o

  pub next-behind : (r ≡ 0 → ⊥) → from < r
  next-behind o = inside.next-behind t trak (child t n moov 0) n from r e o

  pub next-most : (r ≡ 0 → ⊥) → r ≤ min n box_limit
  next-most o = inside.next-most t trak (child t n moov 0) n from r e o
