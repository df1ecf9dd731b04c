-- What is known of a box that was visited. Assumes nothing.
use Rattle.std.specs.Prelude.{Result, Ok, Err}
use mathlib.Core.Path.{◌≡◌, refl, sym, ap, ◌∙◌}
use mathlib.Core.List.{List}
use mathlib.Core.Bool.{Bool}
use mathlib.Core.Logic.{⊎_elim}
use Prim.Native.Nat.{ℕ, ◌+◌, ◌-◌, ◌≤◌, ◌<◌}
use native.Mathlib.Omega.{arith}
use lib.ListN.{length}
use lib.Dec.{leb, ltb, eqb}
use borrow.Author.Tests.{eqb-false, leb-false}
use Rattle.numbers.specs.Field.{when}
use Rattle.numbers.specs.Refusals.{detail}
use Rattle.numbers.specs.declared.Refusal.{Refusal}
use Rattle.numbers.proofs.Chain.{way}
use Rattle.boxes.specs.Header.{header_of}
use Rattle.boxes.specs.declared.header.Header.{Header}
use Rattle.boxes.proofs.Within.{Within, header-within}
use Rattle.places.specs.Places.{held_of}
use Rattle.places.specs.Visit.{depth_limit, box_limit, limited, admitted, seen, visit_of, start_of, content_of, node_of, row_of, placed_in}
use Rattle.places.specs.declared.table.Inside.{Inside}
use Rattle.places.specs.declared.table.Inside.TheVariants.{Nothing, Boxes, Counted}
use Rattle.places.specs.declared.Node.{Node}
use Rattle.places.specs.declared.Row.{Row}

module _ (at left count : ℕ) where
  -- a header that passed
  pub record Admitted (h : Header) (f : Result Header Refusal) : Type 0 where
    pub same : f ≡ Ok h
    pub deeper : left ≡ 0 → ⊥
    pub room : count < box_limit

  module _ (h : Header) where
    refused : {A : Type 0} (q : Refusal) → Err q ≡ Ok h → A
    refused q e = let z : ◌≡◌ {A = ℕ} 0 1 = cc e in absurd (omega arith)

    passed : (f : Result Header Refusal) → limited at left count f ≡ Ok h → Admitted h f
    passed f e =
        ⊎_elim (λ y. refused _ y.1)
        (λ y. ⊎_elim (λ v. refused _ v.1)
        (λ v. record { same = v.1; deeper = eqb-false left 0 y.0; room = leb-false box_limit count v.0 })
        (way (leb box_limit count) _ _ _ y.1))
        (way (eqb left 0) _ _ _ e)

    pub admitted-is : (f : Result Header Refusal) → admitted at left count f ≡ Ok h → Admitted h f
    admitted-is (Ok g) e = passed (Ok g) e
    admitted-is (Err q) e =
        ⊎_elim (λ y. refused _ y.1) (λ y. passed (Err q) y.1) (way (eqb (detail q) at) _ _ _ e)

-- A BOX THAT WAS VISITED
pub record Seen (s : List ℕ) (at left : ℕ) (row : Row) (count : ℕ) (node : Node) (inner : Row) : Type 0 where
  pub start : node.start ≡ at
  pub inside : node.start + node.size ≤ length s
  pub some : 8 ≤ node.size
  pub parent : node.parent ≡ row.parent
  pub depth : node.depth ≡ depth_limit + 1 - left
  pub deeper : left ≡ 0 → ⊥
  pub room : count < box_limit
  pub inner-parent : inner.parent ≡ count + 1
  pub inner-at : node.start + 8 ≤ inner.at

row-parent : (first me kind : ℕ) (content : List ℕ) (placed : Bool) (i : Inside) → (row_of first content me kind placed i).parent ≡ me
row-parent first me kind content placed Nothing = refl
row-parent first me kind content placed (Boxes k) = refl
row-parent first me kind content placed (Counted k) = refl

start-from : (first : ℕ) (content : List ℕ) (skip : ℕ) → first ≤ start_of first content skip
start-from first content skip =
    ⊎_elim (λ y. omega (arith, y.1)) (λ y. omega (arith, y.1)) (way (ltb (length content) skip) (first + length content) (first + skip) _ refl)

row_at : (first me kind : ℕ) (content : List ℕ) (placed : Bool) (i : Inside) → first ≤ (row_of first content me kind placed i).at
row_at first me kind content placed Nothing = omega arith
row_at first me kind content placed (Boxes k) = start-from first content k
row_at first me kind content placed (Counted k) = start-from first content k

module _ (s : List ℕ) (at left : ℕ) (row : Row) (count : ℕ) (node : Node) (inner : Row) where
  by-found : (f : Result Header Refusal) → f ≡ admitted at left count (header_of s at (eqb row.parent 0)) → seen s at left row count f ≡ Ok (node, inner) → Seen s at left row count node inner
  by-found (Ok h) e q =
      let p : Admitted at left count h (header_of s at (eqb row.parent 0)) = admitted-is at left count h _ (sym e) in
      let w : Within s at h = header-within s at h (eqb row.parent 0) p.same in
      let content = content_of s (at + h.length) (at + h.size) in
      let placed = placed_in row h content in
      let both : ◌≡◌ {A = Node × Row} (node_of at h left row placed, row_of (at + h.length) content (count + 1) h.kind placed (held_of h.kind placed)) (node, inner) = cc q in
      let mine : node_of at h left row placed ≡ node = ap (λ (x : Node × Row). x.0) both in
      let r : row_of (at + h.length) content (count + 1) h.kind placed (held_of h.kind placed) ≡ inner = ap (λ (x : Node × Row). x.1) both in
      let a : node.start ≡ at = sym (ap (λ x. x.start) mine) in
      let b : node.size ≡ h.size = sym (ap (λ x. x.size) mine) in
      let n : inner.parent ≡ count + 1 = ap (λ x. x.parent) (sym r) ∙ row-parent (at + h.length) (count + 1) h.kind content placed (held_of h.kind placed) in
      let i : inner.at ≡ (row_of (at + h.length) content (count + 1) h.kind placed (held_of h.kind placed)).at = ap (λ x. x.at) (sym r) in
      record {
        start = a;
        inside = omega (arith, w.inside);
        some = omega (arith, w.some, w.whole);
        parent = sym (ap (λ x. x.parent) mine);
        depth = sym (ap (λ x. x.depth) mine);
        deeper = p.deeper;
        room = p.room;
        inner-parent = n;
        inner-at = omega (arith, w.some, i, row_at (at + h.length) (count + 1) h.kind content placed (held_of h.kind placed));
      }
  by-found (Err r) e q = let z : ◌≡◌ {A = ℕ} 0 1 = cc q in absurd (omega arith)

  pub visit-seen : visit_of s at left row count ≡ Ok (node, inner) → Seen s at left row count node inner
  visit-seen q = by-found (admitted at left count (header_of s at (eqb row.parent 0))) refl q
