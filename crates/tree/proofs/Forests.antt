-- What a walk records is a forest: every box lies in its parent, starts rise, at most 4,096 are recorded, and a child
-- stands one deeper than its parent. Assumes nothing.
use Rattle.std.specs.Prelude.{Result, Ok, Err}
use mathlib.Core.Path.{◌≡◌, refl, sym, ap, subst, ◌∙◌}
use mathlib.Core.List.{List, [], ◌∷◌, ◌++◌, append-nil}
use mathlib.Core.Bool.{Bool, true, false, ◌||◌}
use mathlib.Core.Logic.{⊎_elim}
use Prim.Native.Nat.{ℕ, zero, suc, ◌+◌, ◌-◌, ◌≤◌, ◌<◌}
use native.Mathlib.Nat.{le_trans, pos_of_ne-zero}
use native.Mathlib.Numerals.{add-one, sub-one}
use native.Mathlib.Omega.{arith}
use lib.ListN.{length, take, length-append}
use lib.Seq.{length-take-le}
use lib.Dec.{ltb}
use Rattle.numbers.specs.Field.{when}
use Rattle.numbers.proofs.Chain.{way}
use Rattle.places.specs.Visit.{depth_limit, box_limit, visit_of}
use Rattle.tree.specs.Walk.{Walked, whole, fault, after, onward, Walk, box_of, siblings, kids_of, walk_of, top_of, tree_of, file_limit}
use Rattle.tree.specs.Forest.{nodes_of, Above, in_box, Forest, none, box}
use Rattle.places.specs.declared.Node.{Node}
use Rattle.places.specs.declared.Row.{Row}
use Rattle.places.proofs.Visits.{Seen, visit-seen}
use Rattle.numbers.specs.declared.Refusal.{Refusal}

nodes-after : (xs : List Node) (w : Walked) → nodes_of (after xs w) ≡ xs ++ nodes_of w
nodes-after xs (whole ys) = refl
nodes-after xs (fault ys q) = refl

-- what stands above a row of boxes in s that have `left` levels from themselves down
abbrev above : ℕ → ℕ → ℕ → Above
above number end depth = record { number = number; end = end; depth = depth }

abbrev pub over : List ℕ → ℕ → Row → Above
over s left row = above row.parent (length s) (depth_limit + 1 - left)

-- a row that begins earlier, and a count that is written otherwise
earlier : {a : Above} {n at : ℕ} {ns : List Node} (from : ℕ) → from ≤ at → Forest a n at ns → Forest a n from ns
earlier from h none = none
earlier from h (box p b z e d l m kids rest) = box p (le_trans h b) z e d l m kids rest

-- a walk of the boxes in a box, `left` levels from themselves down, records a forest
abbrev pub Grows : ℕ → Walk → Type 0
Grows left within = (s : List ℕ) (row : Row) (n : ℕ) → Forest (over s left row) n row.at (nodes_of (within s row n))

module _ (within : Walk) (left : ℕ) (few : left ≤ depth_limit) (grows : (left ≡ 0 → ⊥) → Grows (left - 1) within) (s : List ℕ) (row : Row) where
  module _ (n at : ℕ) (x : Node) (inner : Row) (met : Seen s at left row n x inner) where
    abbrev end : ℕ
    end = x.start + x.size

    same_above : over (take end s) (left - 1) inner ≡ in_box n x
    same_above =
        let a : inner.parent ≡ suc n = met.inner-parent ∙ add-one n in
        let b : length (take end s) ≡ end = length-take-le end s met.inside in
        let c : depth_limit + 1 - (left - 1) ≡ suc x.depth = omega (arith, met.depth, pos_of_ne-zero met.deeper) in
        ap (λ k. above k (length (take end s)) (depth_limit + 1 - (left - 1))) a
        ∙ ap (λ k. above (suc n) k (depth_limit + 1 - (left - 1))) b
        ∙ ap (above (suc n) end) c

    kids : Forest (in_box n x) (suc n) (x.start + 8) (nodes_of (within (take end s) inner (n + 1)))
    kids =
        earlier (x.start + 8) met.inner-at
        (subst (λ a. Forest a (suc n) inner.at (nodes_of (within (take end s) inner (n + 1)))) same_above
        (subst (λ k. Forest (over (take end s) (left - 1) inner) k inner.at (nodes_of (within (take end s) inner (n + 1)))) (add-one n)
        (grows met.deeper (take end s) inner (n + 1))))

    module _ (next : ℕ → ℕ → Walked) (f : (p m : ℕ) → Forest (over s left row) m p (nodes_of (next p m))) where
      joined : (ks rest : List Node) → Forest (in_box n x) (suc n) (x.start + 8) ks → Forest (over s left row) (suc n + length ks) end rest → Forest (over s left row) n at (x ∷ (ks ++ rest))
      joined ks rest k r =
          let begins : at ≤ x.start = omega (arith, met.start) in
          let shallow : x.depth ≤ depth_limit = omega (arith, met.depth, pos_of_ne-zero met.deeper) in
          box met.parent begins met.some met.inside met.depth shallow met.room k r

      by-walk : (w : Walked) → Forest (in_box n x) (suc n) (x.start + 8) (nodes_of w) →
          Forest (over s left row) n at (nodes_of (after (x ∷ []) (onward w (λ k. next end (n + 1 + k)))))
      by-walk (whole ks) g =
          let l : n + 1 + length ks ≡ suc n + length ks = omega arith in
          let rest = next end (n + 1 + length ks) in
          let there : Forest (over s left row) (suc n + length ks) end (nodes_of rest) =
          subst (λ k. Forest (over s left row) k end (nodes_of rest)) l (f end (n + 1 + length ks)) in
          subst (Forest (over s left row) n at)
          (sym (nodes-after (x ∷ []) (after ks rest) ∙ ap (λ ns. x ∷ ns) (nodes-after ks rest)))
          (joined ks (nodes_of rest) g there)
      by-walk (fault ks q) g = subst (λ ns. Forest (over s left row) n at (x ∷ ns)) (append-nil ks) (joined ks [] g none)

  boxed : (n at : ℕ) (v : Result (Node × Row) Refusal) → v ≡ visit_of s at left row n → (next : ℕ → ℕ → Walked) → ((p m : ℕ) → Forest (over s left row) m p (nodes_of (next p m))) →
      Forest (over s left row) n at (nodes_of (box_of within next s n v))
  boxed n at (Ok (x, inner)) e next f =
      let met : Seen s at left row n x inner = visit-seen s at left row n x inner (sym e) in
      by-walk n at x inner met next f (within (take (x.start + x.size) s) inner (n + 1)) (kids n at x inner met)
  boxed n at (Err q) e next f = none

  row-grows : (f n at : ℕ) → Forest (over s left row) n at (nodes_of (siblings within s left row f at n))
  unfolding siblings
  row-grows zero n at = none
  row-grows (suc f) n at =
      ⊎_elim (λ y. subst (λ w. Forest (over s left row) n at (nodes_of w)) y.1 (boxed n at (visit_of s at left row n) refl (λ p m. siblings within s left row f p m) (λ p m. row-grows f m p)))
      (λ y. subst (λ w. Forest (over s left row) n at (nodes_of w)) y.1 none)
      (way (◌||◌ row.counted (ltb at (length s))) _ _ _ refl)

kids-grow : (left : ℕ) → left ≤ depth_limit → (left ≡ 0 → ⊥) → Grows (left - 1) (kids_of left)
unfolding kids_of
kids-grow zero h z s row n = absurd (z refl)
kids-grow (suc left) h z s row n =
    let e : suc left - 1 ≡ left = sub-one (suc left) in
    subst (λ k. Forest (over s k row) n row.at (nodes_of (kids_of (suc left) s row n))) (sym e)
    (row-grows (kids_of left) left (omega arith) (kids-grow left (omega arith)) s row row.entries n row.at)

pub walk-grows : (left : ℕ) → left ≤ depth_limit → Grows left (walk_of left)
walk-grows left h s row n = row-grows (kids_of left) left h (kids-grow left h) s row row.entries n row.at

-- the file, above the boxes at the top
abbrev pub at_top : List ℕ → Above
at_top s = above 0 (length s) 1

pub tree-grows : (s : List ℕ) → Forest (at_top s) 0 0 (nodes_of (tree_of s))
tree-grows s =
    ⊎_elim (λ y. subst (λ w. Forest (at_top s) 0 0 (nodes_of w)) y.1 none)
    (λ y. subst (λ w. Forest (at_top s) 0 0 (nodes_of w)) y.1 (walk-grows depth_limit (omega arith) s (top_of s) 0))
    (way (ltb file_limit (length s)) _ _ _ refl)
