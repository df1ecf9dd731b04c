-- The payloads of a file lie in its order, since boxes at the top lie apart. Assumes nothing.
use Prim.Native.Nat.{ℕ, zero, suc, ◌+◌, ◌<◌, ◌≤◌, min}
use mathlib.Core.Path.{◌≡◌, refl, sym, ap, subst, ◌∙◌}
use mathlib.Core.List.{List, [], ◌∷◌, map}
use mathlib.Core.Bool.{Bool, true, false, ◌&&◌}
use native.Mathlib.Omega.{arith}
use lib.ListN.{length, get_or, drop, replicate, length-map, length-replicate, get_or-append}
use lib.Seq.{sets, sets-eq}
use lib.Dec.{eqb}
use borrow.Author.Tests.{eqb-true}
use Rattle.places.specs.Visit.{box_limit}
use Rattle.places.specs.Kinds.{mdat}
use Rattle.places.specs.declared.Node.{Node}
use Rattle.tree.specs.Walk.{Walked, whole, fault, tree_of}
use Rattle.tree.specs.Tables.{bit, tables, recorded}
use Rattle.tree.specs.Forest.{nodes_of}
use Rattle.tree.proofs.Columns.{columns}
use Rattle.tree.proofs.Order.{tree-few, tree_apart}
use Rattle.kin.specs.Kin.{Boxes, boxes, at, stands}
use Rattle.opening.specs.Opening.{recorded as rows}
use Rattle.verdicts.specs.Meaning.{InOrder}
use Rattle.payloads.specs.Payloads.{is_media, payloads_from}
use Rattle.payloads.proofs.Laws.{Apart, in_order}
use Rattle.audit.specs.Boxes.{empty, boxes_by, boxes_in, answer_in, scanned_of, boxes_of, count_of}

-- a table has as many numbers as it was made with
pub full : (n v : ℕ) → n ≡ length (replicate n v)
full n v = sym (length-replicate n v)

-- a column of the tables
abbrev column : (Node → ℕ) → List Node → List ℕ
column m xs = sets (replicate box_limit 0) 0 (map m xs)

module _ (m : Node → ℕ) (xs : List Node) (d : Node) (few : length xs ≤ box_limit) where
  map_at : (ys : List Node) (i : ℕ) → i < length ys → get_or (map m ys) i 0 ≡ m (get_or ys i d)
  map_at [] i h = absurd (omega arith)
  map_at (y ∷ ys) zero h = refl
  map_at (y ∷ ys) (suc i) h = map_at ys i (omega arith)

  pub column-at : (i : ℕ) → i < length xs → at (column m xs) i ≡ m (get_or xs i d)
  column-at i h =
      let k : length (map m xs) ≡ length xs = length-map xs m in
      ap (λ (l : List ℕ). get_or l i 0) (sets-eq (map m xs) (replicate box_limit 0) 0 (omega (arith, k, full box_limit 0)))
      ∙ get_or-append (map m xs) (drop (0 + length (map m xs)) (replicate box_limit 0)) 0 i (omega (arith, k))
      ∙ map_at xs i h

abbrev placed_of : Node → ℕ
placed_of x = bit x.placed

boxes-in : (w : Walked) → boxes_in (recorded empty 0 w)
    ≡ boxes (column (λ x. x.start) (nodes_of w)) (column (λ x. x.size) (nodes_of w)) (column (λ x. x.kind) (nodes_of w)) (column (λ x. x.parent) (nodes_of w)) (column placed_of (nodes_of w))
boxes-in (whole xs) = ap boxes_by (columns (replicate box_limit 0) (replicate box_limit 0) (replicate box_limit 0) (replicate box_limit 0) (replicate box_limit 0) (replicate box_limit 0) 0 xs)
boxes-in (fault xs q) = ap boxes_by (columns (replicate box_limit 0) (replicate box_limit 0) (replicate box_limit 0) (replicate box_limit 0) (replicate box_limit 0) (replicate box_limit 0) 0 xs)

count-in : (w : Walked) → rows (answer_in (recorded empty 0 w)) ≡ length (nodes_of w)
count-in (whole xs) = omega arith
count-in (fault xs q) = omega arith

-- OF A FILE
module _ (f : List ℕ) where
  abbrev nodes : List Node
  nodes = nodes_of (tree_of f)

  pub count-is : count_of f ≡ length nodes
  unfolding scanned_of
  count-is = count-in (tree_of f)

  both : (x y : Bool) → x && y ≡ true → y ≡ true
  both true y e = e
  both false y e = let z : ◌≡◌ {A = ℕ} 0 1 = cc in absurd (omega arith)

  module _ (d : Node) where
    parent-at : (i : ℕ) → i < length nodes → at (boxes_of f).parents i ≡ (get_or nodes i d).parent
    unfolding boxes_of
    parent-at i h = ap (λ (t : Boxes). at t.parents i) (boxes-in (tree_of f)) ∙ column-at (λ x. x.parent) nodes d (tree-few f) i h

    at_top : (i : ℕ) → i < length nodes → is_media (boxes_of f) i ≡ true → (get_or nodes i d).parent ≡ 0
    at_top i h e =
        let z : at (boxes_of f).parents i ≡ 0 = eqb-true _ _ (both (stands (boxes_of f) mdat i) (eqb (at (boxes_of f).parents i) 0) e) in
        sym (parent-at i h) ∙ z

    apart : Apart (boxes_of f) (length nodes)
    unfolding boxes_of
    apart i j l h p q =
        let a = ap (λ (t : Boxes). at t.starts i) (boxes-in (tree_of f)) ∙ column-at (λ x. x.start) nodes d (tree-few f) i (omega arith) in
        let b = ap (λ (t : Boxes). at t.sizes i) (boxes-in (tree_of f)) ∙ column-at (λ x. x.size) nodes d (tree-few f) i (omega arith) in
        let c = ap (λ (t : Boxes). at t.starts j) (boxes-in (tree_of f)) ∙ column-at (λ x. x.start) nodes d (tree-few f) j h in
        omega (arith, a, b, c, tree_apart f d i j l h (at_top i (omega arith) p) (at_top j h q))

  -- the payloads of a file are in its order, and apart
  pub media-in-order : InOrder (payloads_from f (boxes_of f) (count_of f) 0)
  media-in-order = in_order f (boxes_of f) (count_of f) (subst (Apart (boxes_of f)) (sym few) (apart none))
    where
      none : Node
      none = record { start = 0; size = 0; kind = 0; parent = 0; depth = 0; placed = false }

      few : min (count_of f) box_limit ≡ length nodes
      few = omega (arith, count-is, tree-few f)
