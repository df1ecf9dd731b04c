-- What a forest says of its boxes, by their rows in the tables. `d` stands for a row past the last, which nobody reads.
-- Assumes nothing.
use mathlib.Core.Path.{◌≡◌, refl, sym, ap, subst, ◌∙◌}
use mathlib.Core.List.{List, [], ◌∷◌, ◌++◌}
use mathlib.Core.Bool.{Bool, true, false}
use mathlib.Core.Logic.{◌⊎◌, inl, inr, ⊎_elim}
use Prim.Native.Nat.{ℕ, zero, suc, ◌+◌, ◌-◌, ◌≤◌, ◌<◌}
use native.Mathlib.Omega.{arith}
use lib.ListN.{length, get_or, length-append, get_or-append}
use lib.Seq.{get_or-append-add}
use lib.Dec.{ltb}
use borrow.Author.Tests.{ltb-true, ltb-false}
use Rattle.places.specs.Visit.{depth_limit, box_limit}
use Rattle.tree.specs.Walk.{tree_of}
use Rattle.tree.specs.Forest.{nodes_of, Above, in_box, Forest, none, box}
use Rattle.places.specs.declared.Node.{Node}
use Rattle.tree.proofs.Forests.{at_top, tree-grows}

-- at most 4,096 are recorded
pub few : {a : Above} {n at : ℕ} {ns : List Node} → Forest a n at ns → n ≤ box_limit → n + length ns ≤ box_limit
few none h = omega arith
few {n = n} (box {kids = kids} {rest = rest} p b z e d l m k r) h =
    omega (arith, few r (omega (arith, few k (omega arith))), length-append kids rest)

module _ (d : Node) where
  -- an index into boxes in a box, or behind them
  data Split (kids rest : List Node) : ℕ → Type 0 where
    inside : {i : ℕ} → i < length kids → get_or (kids ++ rest) i d ≡ get_or kids i d → Split kids rest i
    behind : {i : ℕ} (j : ℕ) → i ≡ length kids + j → j < length rest → get_or (kids ++ rest) i d ≡ get_or rest j d → Split kids rest i

  split : (kids rest : List Node) (i : ℕ) → i < length (kids ++ rest) → Split kids rest i
  split kids rest i h = by (ltb i (length kids)) refl
    where
      by : (t : Bool) → ltb i (length kids) ≡ t → Split kids rest i
      by true e = let l : i < length kids = ltb-true i (length kids) e in inside l (get_or-append kids rest d i l)
      by false e =
          let g : length kids ≤ i = ltb-false i (length kids) e in
          let s : i ≡ length kids + (i - length kids) = omega arith in
          behind (i - length kids) s (omega (arith, length-append kids rest)) (ap (λ k. get_or (kids ++ rest) k d) s ∙ get_or-append-add kids rest (i - length kids) d)

  -- each box lies between where its row begins and where its parent ends
  pub record Lies (a : Above) (at : ℕ) (x : Node) : Type 0 where
    pub from : at ≤ x.start
    pub some : 8 ≤ x.size
    pub within : x.start + x.size ≤ a.end
    pub shallow : x.depth ≤ depth_limit

  pub lies : {a : Above} {n at : ℕ} {ns : List Node} → Forest a n at ns → (i : ℕ) → i < length ns → Lies a at (get_or ns i d)
  lies none i h = absurd (omega arith)
  lies (box p b z e q l m k r) zero h = record { from = b; some = z; within = e; shallow = l }
  lies {a} {n} {at} (box {x = x} {kids = kids} {rest = rest} p b z e q l m k r) (suc i) h =
      by (λ j g. lies k j g) (λ j g. lies r j g) (split kids rest i (omega arith))
    where
      by : ((j : ℕ) → j < length kids → Lies (in_box n x) (x.start + 8) (get_or kids j d)) →
          ((j : ℕ) → j < length rest → Lies a (x.start + x.size) (get_or rest j d)) → Split kids rest i → Lies a at (get_or (kids ++ rest) i d)
      by f g (inside u s) =
          let o : Lies (in_box n x) (x.start + 8) (get_or kids i d) = f i u in
          subst (Lies a at) (sym s) (record { from = omega (arith, o.from); some = o.some; within = omega (arith, o.within); shallow = o.shallow })
      by f g (behind j c u s) =
          let o : Lies a (x.start + x.size) (get_or rest j d) = g j u in
          subst (Lies a at) (sym s) (record { from = omega (arith, o.from); some = o.some; within = o.within; shallow = o.shallow })

  -- starts rise, by a header's length at least
  pub rises : {a : Above} {n at : ℕ} {ns : List Node} → Forest a n at ns → (i j : ℕ) → i < j → j < length ns → (get_or ns i d).start + 8 ≤ (get_or ns j d).start
  rises none i j g h = absurd (omega arith)
  rises (box p b z e q l m k r) i zero g h = absurd (omega arith)
  rises {a} {n} {at} (box {x = x} {kids = kids} {rest = rest} p b z e q l m k r) zero (suc j) g h =
      by (λ o u. lies k o u) (λ o u. lies r o u) (split kids rest j (omega arith))
    where
      by : ((o : ℕ) → o < length kids → Lies (in_box n x) (x.start + 8) (get_or kids o d)) →
          ((o : ℕ) → o < length rest → Lies a (x.start + x.size) (get_or rest o d)) → Split kids rest j → x.start + 8 ≤ (get_or (kids ++ rest) j d).start
      by f t (inside u s) = omega (arith, (f j u).from, ap (λ y. y.start) s)
      by f t (behind o c u s) = omega (arith, (t o u).from, ap (λ y. y.start) s)
  rises {a} {n} {at} (box {x = x} {kids = kids} {rest = rest} p b z e q l m k r) (suc i) (suc j) g h =
      by (λ o u. lies k o u) (λ o u. lies r o u) (λ o u v w. rises k o u v w) (λ o u v w. rises r o u v w) (split kids rest i (omega arith)) (split kids rest j (omega arith))
    where
      by : ((o : ℕ) → o < length kids → Lies (in_box n x) (x.start + 8) (get_or kids o d)) →
          ((o : ℕ) → o < length rest → Lies a (x.start + x.size) (get_or rest o d)) →
          ((o u : ℕ) → o < u → u < length kids → (get_or kids o d).start + 8 ≤ (get_or kids u d).start) →
          ((o u : ℕ) → o < u → u < length rest → (get_or rest o d).start + 8 ≤ (get_or rest u d).start) →
          Split kids rest i → Split kids rest j → (get_or (kids ++ rest) i d).start + 8 ≤ (get_or (kids ++ rest) j d).start
      by f t c c' (inside u s) (inside v w) = omega (arith, c i j (omega arith) v, ap (λ y. y.start) s, ap (λ y. y.start) w)
      by f t c c' (inside u s) (behind o y v w) =
          omega (arith, (f i u).within, (f i u).some, (t o v).from, ap (λ y. y.start) s, ap (λ y. y.start) w)
      by f t c c' (behind o y u s) (inside v w) = absurd (omega arith)
      by f t c c' (behind o y u s) (behind o' y' v w) = omega (arith, c' o o' (omega arith) v, ap (λ y. y.start) s, ap (λ y. y.start) w)

  -- a box names what stands above the row; or a box before it, lies in that one, and stands one deeper
  pub record Child (n : ℕ) (ns : List Node) (i : ℕ) (x : Node) : Type 0 where
    pub row : ℕ
    pub before : row < i
    pub named : x.parent ≡ suc (n + row)
    pub after : (get_or ns row d).start + 8 ≤ x.start
    pub inside : x.start + x.size ≤ (get_or ns row d).start + (get_or ns row d).size
    pub deeper : x.depth ≡ suc (get_or ns row d).depth

  pub record First (a : Above) (x : Node) : Type 0 where
    pub named : x.parent ≡ a.number
    pub deep : x.depth ≡ a.depth

  pub parents : {a : Above} {n at : ℕ} {ns : List Node} → Forest a n at ns → (i : ℕ) → i < length ns → First a (get_or ns i d) ⊎ Child n ns i (get_or ns i d)
  parents none i h = absurd (omega arith)
  parents (box p b z e q l m k r) zero h = inl (record { named = p; deep = q })
  parents {a} {n} {at} (box {x = x} {kids = kids} {rest = rest} p b z e q l m k r) (suc i) h =
      by (λ o u. lies k o u) (λ o u. parents k o u) (λ o u. parents r o u) (split kids rest i (omega arith))
    where
      in-kids : (y : Node) → get_or (kids ++ rest) i d ≡ y → i < length kids → Lies (in_box n x) (x.start + 8) y → First (in_box n x) y ⊎ Child (suc n) kids i y →
          First a (get_or (kids ++ rest) i d) ⊎ Child n (x ∷ (kids ++ rest)) (suc i) (get_or (kids ++ rest) i d)
      in-kids y s u o (inl f) =
          subst (λ v. First a v ⊎ Child n (x ∷ (kids ++ rest)) (suc i) v) (sym s)
          (inr (record { row = 0; before = omega arith; named = f.named ∙ omega arith; after = o.from; inside = o.within; deeper = f.deep }))
      in-kids y s u o (inr c) =
          let w : get_or (kids ++ rest) c.row d ≡ get_or kids c.row d = get_or-append kids rest d c.row (omega (arith, c.before)) in
          subst (λ v. First a v ⊎ Child n (x ∷ (kids ++ rest)) (suc i) v) (sym s)
          (inr (record {
            row = suc c.row;
            before = omega (arith, c.before);
            named = c.named ∙ omega arith;
            after = omega (arith, c.after, ap (λ v. v.start) w);
            inside = omega (arith, c.inside, ap (λ v. v.start) w, ap (λ v. v.size) w);
            deeper = c.deeper ∙ ap (λ v. suc v.depth) (sym w);
          }))

      in_rest : (j : ℕ) (y : Node) → i ≡ length kids + j → get_or (kids ++ rest) i d ≡ y → First a y ⊎ Child (suc n + length kids) rest j y →
          First a (get_or (kids ++ rest) i d) ⊎ Child n (x ∷ (kids ++ rest)) (suc i) (get_or (kids ++ rest) i d)
      in_rest j y g s (inl f) = subst (λ v. First a v ⊎ Child n (x ∷ (kids ++ rest)) (suc i) v) (sym s) (inl f)
      in_rest j y g s (inr c) =
          let w : get_or (kids ++ rest) (length kids + c.row) d ≡ get_or rest c.row d = get_or-append-add kids rest c.row d in
          subst (λ v. First a v ⊎ Child n (x ∷ (kids ++ rest)) (suc i) v) (sym s)
          (inr (record {
            row = suc (length kids + c.row);
            before = omega (arith, c.before);
            named = c.named ∙ omega arith;
            after = omega (arith, c.after, ap (λ v. v.start) w);
            inside = omega (arith, c.inside, ap (λ v. v.start) w, ap (λ v. v.size) w);
            deeper = c.deeper ∙ ap (λ v. suc v.depth) (sym w);
          }))

      by : ((o : ℕ) → o < length kids → Lies (in_box n x) (x.start + 8) (get_or kids o d)) →
          ((o : ℕ) → o < length kids → First (in_box n x) (get_or kids o d) ⊎ Child (suc n) kids o (get_or kids o d)) →
          ((o : ℕ) → o < length rest → First a (get_or rest o d) ⊎ Child (suc n + length kids) rest o (get_or rest o d)) → Split kids rest i →
          First a (get_or (kids ++ rest) i d) ⊎ Child n (x ∷ (kids ++ rest)) (suc i) (get_or (kids ++ rest) i d)
      by f t t' (inside u s) = in-kids (get_or kids i d) s u (f i u) (t i u)
      by f t t' (behind j g u s) = in_rest j (get_or rest j d) g s (t' j u)

  -- the boxes in a row's boxes name none of those above
  names-below : {a : Above} {n at : ℕ} {ns : List Node} → Forest a n at ns → (m : ℕ) → m < a.number → m < n → (i : ℕ) → i < length ns → m < (get_or ns i d).parent
  names-below g m l k i h = ⊎_elim (λ f. omega (arith, f.named)) (λ c. omega (arith, c.named)) (parents g i h)

  -- boxes of one row lie apart: each ends before the next begins
  pub apart : {a : Above} {n at : ℕ} {ns : List Node} → Forest a n at ns → a.number ≤ n → (i j : ℕ) → i < j → j < length ns →
      (get_or ns i d).parent ≡ a.number → (get_or ns j d).parent ≡ a.number → (get_or ns i d).start + (get_or ns i d).size ≤ (get_or ns j d).start
  apart none c i j g h f t = absurd (omega arith)
  apart (box p b z e q l m k r) c i zero g h f t = absurd (omega arith)
  apart {a} {n} {at} (box {x = x} {kids = kids} {rest = rest} p b z e q l m k r) c zero (suc j) g h f t =
      by (λ o u. names-below k a.number (omega arith) (omega arith) o u) (λ o u. lies r o u) (split kids rest j (omega arith))
    where
      by : ((o : ℕ) → o < length kids → a.number < (get_or kids o d).parent) → ((o : ℕ) → o < length rest → Lies a (x.start + x.size) (get_or rest o d)) →
          Split kids rest j → x.start + x.size ≤ (get_or (kids ++ rest) j d).start
      by below there (inside u s) = absurd (omega (arith, below j u, ap (λ y. y.parent) s, t))
      by below there (behind o y u s) = omega (arith, (there o u).from, ap (λ y. y.start) s)
  apart {a} {n} {at} (box {x = x} {kids = kids} {rest = rest} p b z e q l m k r) c (suc i) (suc j) g h f t =
      by (λ o u. names-below k a.number (omega arith) (omega arith) o u) (λ o u v w f' t'. apart r (omega arith) o u v w f' t') (split kids rest i (omega arith)) (split kids rest j (omega arith))
    where
      by : ((o : ℕ) → o < length kids → a.number < (get_or kids o d).parent) →
          ((o u : ℕ) → o < u → u < length rest → (get_or rest o d).parent ≡ a.number → (get_or rest u d).parent ≡ a.number → (get_or rest o d).start + (get_or rest o d).size ≤ (get_or rest u d).start) →
          Split kids rest i → Split kids rest j → (get_or (kids ++ rest) i d).start + (get_or (kids ++ rest) i d).size ≤ (get_or (kids ++ rest) j d).start
      by below ih (inside u s) w = absurd (omega (arith, below i u, ap (λ y. y.parent) s, f))
      by below ih (behind o y u s) (inside v w) = absurd (omega (arith, below j v, ap (λ y. y.parent) w, t))
      by below ih (behind o y u s) (behind o' y' v w) =
          omega (arith, ih o o' (omega arith) v (sym (ap (λ y. y.parent) s) ∙ f) (sym (ap (λ y. y.parent) w) ∙ t), ap (λ y. y.start) s, ap (λ y. y.size) s, ap (λ y. y.start) w)

-- OF A FILE
module _ (s : List ℕ) where
  abbrev nodes : List Node
  nodes = nodes_of (tree_of s)

  pub tree-few : length nodes ≤ box_limit
  tree-few = omega (arith, few (tree-grows s) (omega arith))

  module _ (d : Node) where
    pub tree-rises : (i j : ℕ) → i < j → j < length nodes → (get_or nodes i d).start + 8 ≤ (get_or nodes j d).start
    tree-rises = rises d (tree-grows s)

    pub tree-lies : (i : ℕ) → i < length nodes → Lies d (at_top s) 0 (get_or nodes i d)
    tree-lies = lies d (tree-grows s)

    pub tree-parents : (i : ℕ) → i < length nodes → First d (at_top s) (get_or nodes i d) ⊎ Child d 0 nodes i (get_or nodes i d)
    tree-parents = parents d (tree-grows s)

    -- the boxes at the top lie apart
    pub tree_apart : (i j : ℕ) → i < j → j < length nodes → (get_or nodes i d).parent ≡ 0 → (get_or nodes j d).parent ≡ 0 →
        (get_or nodes i d).start + (get_or nodes i d).size ≤ (get_or nodes j d).start
    tree_apart = apart d (tree-grows s) (omega arith)
