-- How many turns a row to the end is given makes no difference, once they are as many as there are bytes. So the
-- definition means what a reader expects: at the end nothing, before it a box and then the row behind it.
-- Assumes nothing.
use Rattle.std.specs.Prelude.{Result, Ok, Err}
use mathlib.Core.Path.{◌≡◌, refl, sym, ap, ◌∙◌}
use mathlib.Core.List.{List, [], ◌∷◌}
use mathlib.Core.Bool.{Bool, true, false, ◌||◌}
use Prim.Native.Nat.{ℕ, zero, suc, ◌+◌, ◌-◌, ◌≤◌, ◌<◌}
use native.Mathlib.Omega.{arith}
use lib.ListN.{length, take}
use lib.Dec.{ltb}
use borrow.Author.Tests.{le-ltb}
use Rattle.numbers.specs.Field.{when}
use Rattle.numbers.proofs.Chain.{by-false}
use Rattle.places.specs.Visit.{visit_of}
use Rattle.places.specs.declared.Node.{Node}
use Rattle.places.specs.declared.Row.{Row}
use Rattle.places.proofs.Visits.{Seen, visit-seen}
use Rattle.tree.specs.Walk.{Walked, whole, fault, after, onward, Walk, box_of, siblings}
use Rattle.numbers.specs.declared.Refusal.{Refusal}

module _ (within : Walk) (s : List ℕ) (left : ℕ) (row : Row) (to_end : row.counted ≡ false) where
  -- at the end there is nothing
  pub at-end : (f at n : ℕ) → length s ≤ at → siblings within s left row f at n ≡ whole []
  unfolding siblings
  at-end zero at n h = refl
  at-end (suc f) at n h =
      let e : ◌||◌ row.counted (ltb at (length s)) ≡ false = ap (λ t. ◌||◌ t (ltb at (length s))) to_end ∙ le-ltb at (length s) h in
      sym (by-false _ _ _ _ e refl)

  -- on behind a box, by what was recorded in it
  same-onward : (w : Walked) (go on : ℕ → Walked) → ((k : ℕ) → go k ≡ on k) → onward w go ≡ onward w on
  same-onward (whole xs) go on h = ap (after xs) (h (length xs))
  same-onward (fault xs q) go on h = refl

  same-box : (n at : ℕ) (next after-it : ℕ → ℕ → Walked) → ((p m : ℕ) → at + 8 ≤ p → next p m ≡ after-it p m) → (v : Result (Node × Row) Refusal) → v ≡ visit_of s at left row n →
      box_of within next s n v ≡ box_of within after-it s n v
  same-box n at next after-it h (Ok (x, inner)) e =
      let met : Seen s at left row n x inner = visit-seen s at left row n x inner (sym e) in
      let far : at + 8 ≤ x.start + x.size = omega (arith, met.start, met.some) in
      ap (after (x ∷ []))
      (same-onward (within (take (x.start + x.size) s) inner (n + 1)) _ _ (λ k. h (x.start + x.size) (n + 1 + k) far))
  same-box n at next after-it h (Err q) e = refl

  pub enough : (f g at n : ℕ) → length s - at ≤ f → length s - at ≤ g → siblings within s left row f at n ≡ siblings within s left row g at n
  unfolding siblings
  enough zero g at n h i = sym (at-end g at n (omega arith))
  enough (suc f) zero at n h i = at-end (suc f) at n (omega arith)
  enough (suc f) (suc g) at n h i =
      ap (λ w. when (◌||◌ row.counted (ltb at (length s))) w (whole []))
      (same-box n at (λ p m. siblings within s left row f p m) (λ p m. siblings within s left row g p m) (λ p m b. enough f g p m (omega arith) (omega arith)) (visit_of s at left row n) refl)
