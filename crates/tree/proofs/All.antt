-- From tables of its own to the lent ones: what `tree` copies is what `puts` says. Assumes nothing.
use Rattle.std.specs.Prelude.{Ok, Err}
use mathlib.Core.Path.{◌≡◌, refl, sym, ap, ap₂, ◌∙◌}
use mathlib.Core.List.{List, map}
use Prim.Native.Nat.{ℕ, ◌+◌, ◌≤◌}
use native.Mathlib.Nat.{zero-add}
use native.Mathlib.Omega.{arith}
use lib.ListN.{length, take, replicate, length-replicate}
use lib.Seq.{sets, length-sets}
use Rattle.numbers.specs.declared.Refusal.{Refusal}
use Rattle.places.specs.Visit.{box_limit}
use Rattle.tree.specs.Walk.{Walked, whole, fault, tree_of}
use Rattle.tree.specs.Forest.{nodes_of}
use Rattle.tree.specs.Tables.{Tables, tables, bit, puts, Out, out, recorded, all_of}
use Rattle.places.specs.declared.Node.{Node}
use Rattle.tree.specs.declared.Scanned.{Scanned}
use Rattle.tree.specs.declared.Scanned.TheVariants as scan
use Rattle.tree.proofs.Columns.{columns, moved}
use Rattle.tree.proofs.Order.{tree-few}

abbrev zeros : List ℕ
zeros = replicate 4096 0

module _ (s a b c d e f : List ℕ) (r : Scanned) (told : out r (tables a b c d e f) ≡ recorded (tables zeros zeros zeros zeros zeros zeros) 0 (tree_of s)) where
  -- the tables as the scan left them
  pub record Kept (n : ℕ) : Type 0 where
    pub nodes : List Node
    pub same : tree_of s ≡ whole nodes
    pub count : n ≡ length nodes
    pub few : length nodes ≤ box_limit
    pub filled : tables a b c d e f ≡ puts (tables zeros zeros zeros zeros zeros zeros) 0 nodes

  pub kept : (n : ℕ) → r ≡ scan.Whole n → Kept n
  kept n g = by (tree_of s) refl
    where
      by : (w : Walked) → tree_of s ≡ w → Kept n
      by (whole xs) h =
          let p : out r (tables a b c d e f) ≡ out (scan.Whole (0 + length xs)) (puts (tables zeros zeros zeros zeros zeros zeros) 0 xs) =
          told ∙ ap (recorded (tables zeros zeros zeros zeros zeros zeros) 0) h in
          let m : n ≡ 0 + length xs = cc in
          let l : length (nodes_of (tree_of s)) ≡ length xs = ap (λ v. length (nodes_of v)) h in
          record { nodes = xs; same = h; count = m ∙ zero-add (length xs); few = omega (arith, tree-few s); filled = cc }
      by (fault xs q) h =
          let p : out r (tables a b c d e f) ≡ out (scan.Fault (0 + length xs) q) (puts (tables zeros zeros zeros zeros zeros zeros) 0 xs) =
          told ∙ ap (recorded (tables zeros zeros zeros zeros zeros zeros) 0) h in
          let z : ◌≡◌ {A = ℕ} 0 1 = cc in
          absurd (omega arith)

  pub refused : (t : Tables) (n : ℕ) (q : Refusal) → r ≡ scan.Fault n q → out (Err q) t ≡ all_of t (tree_of s)
  refused t n q g = by (tree_of s) refl
    where
      by : (w : Walked) → tree_of s ≡ w → out (Err q) t ≡ all_of t (tree_of s)
      by (whole xs) h =
          let p : out r (tables a b c d e f) ≡ out (scan.Whole (0 + length xs)) (puts (tables zeros zeros zeros zeros zeros zeros) 0 xs) =
          told ∙ ap (recorded (tables zeros zeros zeros zeros zeros zeros) 0) h in
          let z : ◌≡◌ {A = ℕ} 0 1 = cc in
          absurd (omega arith)
      by (fault xs o) h =
          let p : out r (tables a b c d e f) ≡ out (scan.Fault (0 + length xs) o) (puts (tables zeros zeros zeros zeros zeros zeros) 0 xs) =
          told ∙ ap (recorded (tables zeros zeros zeros zeros zeros zeros) 0) h in
          let i : q ≡ o = cc in
          ap (λ v. out (Err v) t) i ∙ sym (ap (all_of t) h)

  module _ (n : ℕ) (g : r ≡ scan.Whole n) where
    k : Kept n
    k = kept n g

    room : length k.nodes ≤ length zeros
    room = omega (arith, k.few, length-replicate {A = ℕ} 4096 0)

    parts : tables a b c d e f
        ≡ tables (sets zeros 0 (map (λ x. x.start) k.nodes)) (sets zeros 0 (map (λ x. x.size) k.nodes)) (sets zeros 0 (map (λ x. x.kind) k.nodes)) (sets zeros 0 (map (λ x. x.parent) k.nodes)) (sets zeros 0 (map (λ x. x.depth) k.nodes)) (sets zeros 0 (map (λ x. bit x.placed) k.nodes))
    parts = k.filled ∙ columns zeros zeros zeros zeros zeros zeros 0 k.nodes

    -- a column, its length, and its copy
    column : (m : Node → ℕ) (from : List ℕ) → from ≡ sets zeros 0 (map m k.nodes) → (n ≤ box_limit) × (n ≤ length from)
    column m from h =
        let l : length from ≡ length zeros = ap length h ∙ length-sets zeros 0 (map m k.nodes) in
        (omega (arith, k.few, k.count), omega (arith, room, k.count))

    copied : (m : Node → ℕ) (from to after : List ℕ) → from ≡ sets zeros 0 (map m k.nodes) → after ≡ sets to 0 (take n from) → after ≡ sets to 0 (map m k.nodes)
    copied m from to after h e = e ∙ ap₂ (λ i x. sets to 0 (take i x)) k.count h ∙ moved m k.nodes to zeros room

    pub asks-a : (n ≤ box_limit) × (n ≤ length a)
    asks-a = column (λ x. x.start) a (cc parts)

    pub asks-b : (n ≤ box_limit) × (n ≤ length b)
    asks-b = column (λ x. x.size) b (cc parts)

    pub asks-c : (n ≤ box_limit) × (n ≤ length c)
    asks-c = column (λ x. x.kind) c (cc parts)

    pub asks-d : (n ≤ box_limit) × (n ≤ length d)
    asks-d = column (λ x. x.parent) d (cc parts)

    pub asks-e : (n ≤ box_limit) × (n ≤ length e)
    asks-e = column (λ x. x.depth) e (cc parts)

    pub asks-f : (n ≤ box_limit) × (n ≤ length f)
    asks-f = column (λ x. bit x.placed) f (cc parts)

    module _ (a₀ b₀ c₀ d₀ e₀ f₀ a₁ b₁ c₁ d₁ e₁ f₁ : List ℕ) where
      pub all : a₁ ≡ sets a₀ 0 (take n a) → b₁ ≡ sets b₀ 0 (take n b) → c₁ ≡ sets c₀ 0 (take n c) → d₁ ≡ sets d₀ 0 (take n d) → e₁ ≡ sets e₀ 0 (take n e) → f₁ ≡ sets f₀ 0 (take n f) →
          out (Ok n) (tables a₁ b₁ c₁ d₁ e₁ f₁) ≡ all_of (tables a₀ b₀ c₀ d₀ e₀ f₀) (tree_of s)
      all ea eb ec ed ee ef =
          let xs = k.nodes in
          let pa : a₁ ≡ sets a₀ 0 (map (λ x. x.start) xs) = copied (λ x. x.start) a a₀ a₁ (cc parts) ea in
          let pb : b₁ ≡ sets b₀ 0 (map (λ x. x.size) xs) = copied (λ x. x.size) b b₀ b₁ (cc parts) eb in
          let pc : c₁ ≡ sets c₀ 0 (map (λ x. x.kind) xs) = copied (λ x. x.kind) c c₀ c₁ (cc parts) ec in
          let pd : d₁ ≡ sets d₀ 0 (map (λ x. x.parent) xs) = copied (λ x. x.parent) d d₀ d₁ (cc parts) ed in
          let pe : e₁ ≡ sets e₀ 0 (map (λ x. x.depth) xs) = copied (λ x. x.depth) e e₀ e₁ (cc parts) ee in
          let pf : f₁ ≡ sets f₀ 0 (map (λ x. bit x.placed) xs) = copied (λ x. bit x.placed) f f₀ f₁ (cc parts) ef in
          let same : tables a₁ b₁ c₁ d₁ e₁ f₁ ≡ puts (tables a₀ b₀ c₀ d₀ e₀ f₀) 0 xs = cc (columns a₀ b₀ c₀ d₀ e₀ f₀ 0 xs) in
          ap₂ (λ i t. out (Ok i) t) k.count same ∙ sym (ap (all_of (tables a₀ b₀ c₀ d₀ e₀ f₀)) k.same)
