-- The tables in which a walk is recorded: a number in each for every box. Assumes nothing.
use Rattle.std.specs.Prelude.{ℕ, suc, ◌+◌, List, [], ◌∷◌, Bool, true, false, length, set, replicate, Result, Ok, Err}
use Rattle.places.specs.Visit.{box_limit}
use Rattle.tree.specs.Walk.{Walked, whole, fault, tree_of}
use Rattle.places.specs.declared.Node.{Node}
use Rattle.tree.specs.declared.Scanned.{Scanned}
use Rattle.tree.specs.declared.Scanned.TheVariants as scan
use Rattle.numbers.specs.declared.Refusal.{Refusal}

-- starts, sizes, types, parents, depths, and 1 where a box stands in its place
pub data Tables : Type 0 where
  tables : List ℕ → List ℕ → List ℕ → List ℕ → List ℕ → List ℕ → Tables

abbrev pub bit : Bool → ℕ
bit true = 1
bit false = 0

-- a box in row i of every table
abbrev pub put : Tables → ℕ → Node → Tables
put (tables a b c d e f) i x =
    tables (set a i x.start) (set b i x.size) (set c i x.kind) (set d i x.parent) (set e i x.depth) (set f i (bit x.placed))

-- boxes in the rows from i on; other rows stay
unfoldable pub puts : Tables → ℕ → List Node → Tables
puts t i [] = t
puts t i (x ∷ xs) = puts (put t i x) (suc i) xs

-- an answer, with the tables as they are left
pub data Out (A : Type 0) : Type 0 where
  out : A → Tables → Out A

-- a walk that began at row i: how many boxes are recorded, the fault if there is one, and the tables
abbrev pub recorded : Tables → ℕ → Walked → Out Scanned
recorded t i (whole nodes) = out (scan.Whole (i + length nodes)) (puts t i nodes)
recorded t i (fault nodes q) = out (scan.Fault (i + length nodes) q) (puts t i nodes)

abbrev pub scan_of : List ℕ → Tables → Out Scanned
scan_of s t = recorded t 0 (tree_of s)

-- all boxes or a refusal, which leaves the tables as they were
abbrev pub all_of : Tables → Walked → Out (Result ℕ Refusal)
all_of t (whole nodes) = out (Ok (length nodes)) (puts t 0 nodes)
all_of t (fault nodes q) = out (Err q) t
