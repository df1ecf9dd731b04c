-- How the recorded boxes lie: in file order, each before those in it and those before the next one. Assumes nothing.
use Rattle.std.specs.Prelude.{ℕ, suc, ◌+◌, ◌≤◌, ◌<◌, ◌≡◌, List, [], ◌∷◌, ◌++◌, length}
use Rattle.places.specs.Visit.{box_limit, depth_limit}
use Rattle.tree.specs.Walk.{Walked, whole, fault}
use Rattle.places.specs.declared.Node.{Node}

-- what was recorded, whether or not there was a fault
abbrev pub nodes_of : Walked → List Node
nodes_of (whole nodes) = nodes
nodes_of (fault nodes q) = nodes

-- what stands above a row of boxes: the number by which they name it, where it ends, and how deep they stand
pub record Above : Type 0 where
  pub number : ℕ
  pub end : ℕ
  pub depth : ℕ

-- the box in row n of the tables, as what stands above the boxes in it
abbrev pub in_box : ℕ → Node → Above
in_box n x = record { number = suc n; end = x.start + x.size; depth = suc x.depth }

-- boxes of a row from `at` on, the first of them in row n of the tables
pub data Forest : Above → ℕ → ℕ → List Node → Type 0 where
  none : {a : Above} {n at : ℕ} → Forest a n at []
  box : {a : Above} {n at : ℕ} {x : Node} {kids rest : List Node} →
      x.parent ≡ a.number →
      at ≤ x.start →
      8 ≤ x.size →
      x.start + x.size ≤ a.end →
      x.depth ≡ a.depth →
      x.depth ≤ depth_limit →
      n < box_limit →
      Forest (in_box n x) (suc n) (x.start + 8) kids →
      Forest a (suc n + length kids) (x.start + x.size) rest →
      Forest a n at (x ∷ (kids ++ rest))
