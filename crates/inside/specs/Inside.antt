-- The boxes of a type in a parent, among those that are recorded in the tables. A parent is named by its row and 1, or by
-- 0 where it is the file; so is each box that is told. A box counts where it stands in its place (A2). Assumes nothing.
use Rattle.std.specs.Prelude.{ℕ, zero, suc, ◌+◌, ◌-◌, min, List, [], ◌∷◌, Bool, ◌&&◌, eqb}
use Rattle.numbers.specs.Field.{when}
use Rattle.places.specs.Visit.{box_limit}
use Rattle.kin.specs.Kin.{Boxes, at, stands}

-- box j stands in its place, is of this type and is in the parent p
abbrev pub in_parent : Boxes → ℕ → ℕ → ℕ → Bool
in_parent t kind p j = ◌&&◌ (stands t kind j) (eqb (at t.parents j) p)

-- of k rows from row i on: the first such box, its row and 1; 0 where there is none
unfoldable pub next_in : Boxes → ℕ → ℕ → ℕ → ℕ → ℕ
next_in t kind p zero i = 0
next_in t kind p (suc k) i = when (in_parent t kind p i) (i + 1) (next_in t kind p k (i + 1))

-- all of them, in order
unfoldable pub rows_in : Boxes → ℕ → ℕ → ℕ → ℕ → List ℕ
rows_in t kind p zero i = []
rows_in t kind p (suc k) i = when (in_parent t kind p i) ((i + 1) ∷ rows_in t kind p k (i + 1)) (rows_in t kind p k (i + 1))

-- of n recorded boxes from row `from` on; behind the last row of the tables there is no box
abbrev pub next_of : Boxes → ℕ → ℕ → ℕ → ℕ → ℕ
next_of t n kind p from = next_in t kind p (min n box_limit - from) from

abbrev pub inside_of : Boxes → ℕ → ℕ → ℕ → ℕ → List ℕ
inside_of t n kind p from = rows_in t kind p (min n box_limit - from) from

-- the first of all
unfoldable pub child : Boxes → ℕ → ℕ → ℕ → ℕ
child t n kind p = next_of t n kind p 0
