-- The boxes of a parent, and what is needed of them. Assumes nothing.
use Rattle.std.specs.Prelude.{Some, None}
use mathlib.Core.Path.{◌≡◌, refl, sym, ap, ◌∙◌}
use mathlib.Core.List.{List}
use mathlib.Core.Bool.{Bool, true, false}
use Prim.Native.Nat.{ℕ, ◌+◌, ◌-◌, ◌<◌, ◌≤◌, min}
use native.Mathlib.Omega.{arith}
use lib.Dec.{eqb}
use Rattle.numbers.specs.Field.{when}
use Rattle.numbers.proofs.Chain.{is_eq, is_ne}
use Rattle.places.specs.Kinds.{trex, tfhd}
use Rattle.places.specs.Visit.{box_limit}
use Rattle.kin.specs.Kin.{Boxes}
use Rattle.inside.specs.Inside.{in_parent, child}
use Rattle.needed.specs.Needed.{each, needed, track_of, extends, trex_of, needed_trex, missing}
use Rattle.needed.proofs.Firsts.{first-none, first_next, first-at, first-end, row_next, row_at}

-- THE TREX OF A TRACK

module _ (s : List ℕ) (t : Boxes) (track : ℕ) where
  pub trex-none : trex_of s t 0 track ≡ 0
  unfolding trex_of
  trex-none = first-none _

  pub trex-next : (j : ℕ) (r : Bool) → trex_of s t j track ≡ 0 → r ≡ extends s t track j → r ≡ false → trex_of s t (j + 1) track ≡ 0
  unfolding trex_of
  trex-next j r e g h = row_next (extends s t track) j r e g h

  pub trex-at : (i k j : ℕ) (r : Bool) → i ≡ k → j < i → trex_of s t j track ≡ 0 → r ≡ extends s t track j → r ≡ true → j + 1 ≡ trex_of s t k track
  unfolding trex_of
  trex-at i k j r w l e g h = row_at (extends s t track) j r e g i l h ∙ ap (λ x. trex_of s t x track) w

  pub trex-end : (i k j : ℕ) → i ≡ k → j ≤ i → i ≤ j → trex_of s t j track ≡ 0 → 0 ≡ trex_of s t k track
  unfolding trex_of
  trex-end i k j w l h e = first-end _ i j l h e ∙ ap (λ x. trex_of s t x track) w

-- EACH CHILD

module _ (t : Boxes) (kind p : ℕ) (lacks : ℕ → ℕ) where
  pub each_none : each t 0 kind p lacks ≡ 0
  unfolding each
  each_none = first-none _

  pub each_next : (j x : ℕ) → each t j kind p lacks ≡ 0 → x ≡ when (in_parent t kind p j) (lacks (j + 1)) 0 → x ≡ 0 → each t (j + 1) kind p lacks ≡ 0
  unfolding each
  each_next j x e g h = first_next (λ j. when (in_parent t kind p j) (lacks (j + 1)) 0) j x e g h

  pub each_at : (i j x : ℕ) → j < i → each t j kind p lacks ≡ 0 → x ≡ when (in_parent t kind p j) (lacks (j + 1)) 0 → (x ≡ 0 → ⊥) → x ≡ each t i kind p lacks
  unfolding each
  each_at i j x l e g o = first-at (λ j. when (in_parent t kind p j) (lacks (j + 1)) 0) i j x l e g o

  pub each-end : (i j : ℕ) → j ≤ i → i ≤ j → each t j kind p lacks ≡ 0 → 0 ≡ each t i kind p lacks
  unfolding each
  each-end i j l h e = first-end _ i j l h e

-- A NEEDED BOX

module _ (t : Boxes) (n kind p rest r : ℕ) (e : r ≡ child t n kind p) where
  pub lacking : r ≡ 0 → kind ≡ needed t n kind p rest
  unfolding needed
  lacking h = is_eq _ _ _ (child t n kind p) 0 (sym e ∙ h) refl

  pub present : {a : ℕ} → (r ≡ 0 → ⊥) → a ≡ rest → a ≡ needed t n kind p rest
  unfolding needed
  present o q = is_ne _ _ _ (child t n kind p) 0 (λ h. o (e ∙ h)) q

  -- its other form is there
  pub other : (r ≡ 0 → ⊥) → 0 ≡ when (eqb (child t n kind p) 0) rest 0
  other o = is_ne _ _ _ (child t n kind p) 0 (λ h. o (e ∙ h)) refl

  pub neither : {a : ℕ} → r ≡ 0 → a ≡ rest → a ≡ when (eqb (child t n kind p) 0) rest 0
  neither h q = is_eq _ _ _ (child t n kind p) 0 (sym e ∙ h) q

-- the trex of the track that a tfhd names
module _ (s : List ℕ) (t : Boxes) (n p rest head track r : ℕ) (e : head ≡ child t n tfhd p) (g : track ≡ track_of s t (head - 1)) (f : r ≡ trex_of s t (min n box_limit) track) (few : n ≤ box_limit) where
  same : r ≡ trex_of s t n (track_of s t (child t n tfhd p - 1))
  same = f ∙ ap (λ k. trex_of s t k track) (let z : min n box_limit ≡ n = omega arith in z) ∙ ap (λ x. trex_of s t n x) (g ∙ ap (λ h. track_of s t (h - 1)) e)

  pub trex-lacking : r ≡ 0 → trex ≡ needed_trex s t n (track_of s t (child t n tfhd p - 1)) rest
  unfolding needed_trex
  trex-lacking h = is_eq _ _ _ (trex_of s t n (track_of s t (child t n tfhd p - 1))) 0 (sym same ∙ h) refl

  pub trex-present : {a : ℕ} → (r ≡ 0 → ⊥) → a ≡ rest → a ≡ needed_trex s t n (track_of s t (child t n tfhd p - 1)) rest
  unfolding needed_trex
  trex-present o q = is_ne _ _ _ (trex_of s t n (track_of s t (child t n tfhd p - 1))) 0 (λ h. o (same ∙ h)) q

-- THE ANSWER

module _ (k r : ℕ) (e : r ≡ k) where
  pub told-nothing : r ≡ 0 → None ≡ missing k
  told-nothing h = is_eq _ _ _ k 0 (sym e ∙ h) refl

  pub told-box : (r ≡ 0 → ⊥) → Some r ≡ missing k
  told-box o = is_ne _ _ _ k 0 (λ h. o (e ∙ h)) (ap Some e)
