-- The tree of a file: its boxes in file order, each before those in it, up to the first fault (A1). Assumes nothing.
use Rattle.std.specs.Prelude.{ℕ, zero, suc, ◌+◌, List, [], ◌∷◌, ◌++◌, Bool, true, false, ◌||◌, length, take, ltb, Result, Ok, Err}
use Rattle.numbers.specs.Field.{when}
use Rattle.numbers.specs.declared.Refusal.TheVariants as refusal
use Rattle.numbers.specs.declared.Refusal.{Refusal}
use Rattle.places.specs.Places.{file}
use Rattle.places.specs.Visit.{depth_limit, row, visit_of}
use Rattle.places.specs.declared.Node.{Node}
use Rattle.places.specs.declared.Row.{Row}

-- the largest file, in bytes (document 01, Limits)
abbrev pub file_limit : ℕ
file_limit = 1073741824

-- what a walk recorded: all boxes, or those before the first fault, and the fault
pub data Walked : Type 0 where
  whole : List Node → Walked
  fault : List Node → Refusal → Walked

-- boxes, then what was recorded after them
abbrev pub after : List Node → Walked → Walked
after nodes (whole more) = whole (nodes ++ more)
after nodes (fault more q) = fault (nodes ++ more) q

-- on after a walk without a fault, told how many boxes it recorded
abbrev pub onward : Walked → (ℕ → Walked) → Walked
onward (whole nodes) go = after nodes (go (length nodes))
onward (fault nodes q) go = fault nodes q

-- how the boxes in a box are walked: the bytes up to its end, the row, and how many boxes are recorded before it
abbrev pub Walk : Type 0
Walk = List ℕ → Row → ℕ → Walked

-- a box and those in it, and on behind it
abbrev pub box_of : Walk → (ℕ → ℕ → Walked) → List ℕ → ℕ → Result (Node × Row) Refusal → Walked
box_of within next s count (Ok (node, inner)) =
    let end = node.start + node.size in
    after (node ∷ []) (onward (within (take end s) inner (count + 1)) (λ k. next end (count + 1 + k)))
box_of within next s count (Err q) = fault [] q

-- at most f boxes from `at` on. A counted row must have them all; another one ends where the bytes do.
unfoldable pub siblings : Walk → List ℕ → ℕ → Row → ℕ → ℕ → ℕ → Walked
siblings within s left row zero at count = whole []
siblings within s left row (suc f) at count =
    when (◌||◌ row.counted (ltb at (length s)))
    (box_of within (λ p n. siblings within s left row f p n) s count (visit_of s at left row count))
    (whole [])

-- a row of boxes that have `left` levels from themselves down, given how the boxes in them are walked
abbrev pub level_of : Walk → ℕ → Walk
level_of within left s row count = siblings within s left row row.entries row.at count

-- the boxes in a box that has `left` levels from itself down
unfoldable pub kids_of : ℕ → Walk
kids_of zero s row count = whole []
kids_of (suc left) s row count = level_of (kids_of left) left s row count

abbrev pub walk_of : ℕ → Walk
walk_of left s row count = level_of (kids_of left) left s row count

-- the boxes at the top, no more than there are bytes
abbrev pub top_of : List ℕ → Row
top_of s = row 0 (length s) false 0 file true

abbrev pub tree_of : List ℕ → Walked
tree_of s = when (ltb file_limit (length s)) (fault [] (refusal.Limit 0)) (walk_of depth_limit s (top_of s) 0)
