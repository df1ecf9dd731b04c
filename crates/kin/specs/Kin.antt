-- The recorded boxes, as the columns of their tables, and what a box has to do with the others. Assumes nothing.
use Rattle.std.specs.Prelude.{ℕ, ◌-◌, List, Bool, true, false, ◌&&◌, ◌||◌, get_or, eqb, ltb, leb}
use Rattle.numbers.specs.Field.{when}
use Rattle.places.specs.Visit.{box_limit}
use Rattle.places.specs.Kinds.{moof, mdat, emsg, trak, trex, url, stco, co64, avc1, mp4a, vp09, tx3g, traf}
use Rattle.kin.specs.Before.{some, sum}

-- starts, sizes, types, parents (the parent's row and 1, or 0 at the top), and 1 where a box stands in its place
pub record Boxes : Type 0 where
  pub starts : List ℕ
  pub sizes : List ℕ
  pub kinds : List ℕ
  pub parents : List ℕ
  pub placed : List ℕ

abbrev pub boxes : List ℕ → List ℕ → List ℕ → List ℕ → List ℕ → Boxes
boxes a b k p l = record { starts = a; sizes = b; kinds = k; parents = p; placed = l }

abbrev pub at : List ℕ → ℕ → ℕ
at column i = get_or column i 0

-- box j stands in its place and is of this type
abbrev pub stands : Boxes → ℕ → ℕ → Bool
stands t kind j = ◌&&◌ (eqb (at t.placed j) 1) (eqb (at t.kinds j) kind)

-- the types that a parent may hold more than once; of the others that are read each is once-only (A16)
abbrev pub repeats : ℕ → Bool
repeats k =
    ◌||◌ (◌||◌ (◌||◌ (◌||◌ (◌||◌ (◌||◌ (◌||◌ (◌||◌ (◌||◌ (◌||◌ (eqb k moof) (eqb k mdat)) (eqb k emsg)) (eqb k trak)) (eqb k trex)) (eqb k url)) (eqb k avc1)) (eqb k mp4a)) (eqb k vp09)) (eqb k tx3g)) (eqb k traf)

-- stco and co64 are one table in two forms, and exclude each other (6)
abbrev pub form : ℕ → ℕ
form kind = when (eqb kind co64) stco kind

-- box j stands in the parent of box i, and is of its type
abbrev pub brother : Boxes → ℕ → ℕ → Bool
brother t i j =
    ◌&&◌ (◌&&◌ (eqb (at t.placed j) 1) (eqb (at t.parents j) (at t.parents i))) (eqb (form (at t.kinds j)) (form (at t.kinds i)))

-- a once-only box that comes a second time; behind the last row of the tables there is no box
abbrev pub twice : Boxes → ℕ → Bool
twice t i = when (ltb i box_limit) (when (repeats (at t.kinds i)) false (some (brother t i) i)) false

-- how many tracks and fragments there may be (document 01, Limits)
abbrev pub track_limit : ℕ
track_limit = 4

abbrev pub fragment_limit : ℕ
fragment_limit = 1024

abbrev pub one : Bool → ℕ
one true = 1
one false = 0

-- how many boxes of a type stand in their place before box i
abbrev pub earlier : Boxes → ℕ → ℕ → ℕ
earlier t kind i = sum (λ j. one (stands t kind j)) i

-- one trak or one moof too many (A8)
abbrev pub crowded : Boxes → ℕ → Bool
crowded t i =
    when (ltb i box_limit)
    (when (eqb (at t.kinds i) trak) (leb track_limit (earlier t trak i))
    (when (eqb (at t.kinds i) moof) (leb fragment_limit (earlier t moof i)) false))
    false
