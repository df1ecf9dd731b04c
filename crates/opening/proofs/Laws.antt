-- What it says of a file that it is not refused by its boxes. Assumes nothing.
use Rattle.std.specs.Prelude.{Result, Option, Ok, Err, Some, None}
use mathlib.Core.Path.{◌≡◌, refl, sym, ap, ◌∙◌}
use mathlib.Core.List.{List}
use Prim.Native.Nat.{ℕ, zero, suc, ◌+◌, ◌<◌, ◌≤◌, min}
use native.Mathlib.Omega.{arith}
use mathlib.Core.Bool.{Bool, true, false}
use lib.Dec.{eqb}
use borrow.Author.Tests.{eqb-true, eqb-false}
use Rattle.numbers.specs.declared.Refusal.{Refusal}
use Rattle.places.specs.Visit.{box_limit}
use Rattle.rows.specs.Judge.{settle}
use Rattle.kin.specs.Kin.{Boxes}
use Rattle.tree.specs.declared.Scanned.{Scanned}
use Rattle.tree.specs.declared.Scanned.TheVariants.{Whole, Fault}
use Rattle.contents.specs.Contents.{box_fault}
use Rattle.needed.specs.Needed.{missing_of}
use Rattle.opening.specs.Opening.{first_fault, content_fault, lacking, recorded, rest_of, refusal_of}

abbrev is-wrong : Result (Unit {0}) Refusal → ℕ
is-wrong (Ok tt) = 0
is-wrong (Err q) = 1

-- both of two verdicts are fine
both-fine : (a b : Result (Unit {0}) Refusal) → settle a Err b ≡ (Ok tt) → (b ≡ (Ok tt)) × (a ≡ (Ok tt))
both-fine a (Ok tt) e = (refl, e)
both-fine a (Err q) e = let z : ◌≡◌ {A = ℕ} 1 0 = ap is-wrong e in absurd (omega (arith, z))

none-lacks : (m : Option ℕ) → lacking m ≡ (Ok tt) → m ≡ None
none-lacks None e = refl
none-lacks (Some k) e = let z : ◌≡◌ {A = ℕ} 1 0 = ap is-wrong e in absurd (omega (arith, z))

fine-in : (f : List ℕ) (t : Boxes) (n k i j : ℕ) → first_fault f t n k i ≡ (Ok tt) → i ≤ j → j < i + k → box_fault f t n j ≡ (Ok tt)
unfolding first_fault
fine-in f t n zero i j e l h = absurd (omega arith)
fine-in f t n (suc k) i j e l h = by (eqb i j) refl (both-fine (first_fault f t n k (i + 1)) (box_fault f t n i) e) (fine-in f t n k (i + 1) j)
  where
    by : (b : Bool) → eqb i j ≡ b → (box_fault f t n i ≡ (Ok tt)) × (first_fault f t n k (i + 1) ≡ (Ok tt)) →
        (first_fault f t n k (i + 1) ≡ (Ok tt) → i + 1 ≤ j → j < i + 1 + k → box_fault f t n j ≡ (Ok tt)) → box_fault f t n j ≡ (Ok tt)
    by true q r ih = ap (box_fault f t n) (sym (eqb-true i j q)) ∙ r.0
    by false q r ih = ih r.1 (omega (arith, eqb-false i j q)) (omega arith)

module _ (f : List ℕ) (t : Boxes) (scanned : Scanned) (e : refusal_of f t scanned ≡ (Ok tt)) where
  parts : (content_fault f t (recorded scanned) ≡ (Ok tt)) × (rest_of f t scanned ≡ (Ok tt))
  unfolding refusal_of
  parts = both-fine (rest_of f t scanned) (content_fault f t (recorded scanned)) e

  -- no recorded box has a fault
  pub boxes-fine : (i : ℕ) → i < min (recorded scanned) box_limit → box_fault f t (recorded scanned) i ≡ (Ok tt)
  boxes-fine i h = fine-in f t (recorded scanned) (min (recorded scanned) box_limit) 0 i parts.0 (omega arith) (omega arith)

-- a fault of a header is a refusal
pub no-fault : (f : List ℕ) (t : Boxes) (n : ℕ) (q : Refusal) → refusal_of f t (Fault n q) ≡ (Ok tt) → ⊥
no-fault f t n q e = let z : ◌≡◌ {A = ℕ} 1 0 = ap is-wrong (parts f t (Fault n q) e).1 in omega (arith, z)

-- no needed box is missing
pub none-missing : (f : List ℕ) (t : Boxes) (n : ℕ) → refusal_of f t (Whole n) ≡ (Ok tt) → missing_of f t n ≡ None
none-missing f t n e = none-lacks (missing_of f t n) (parts f t (Whole n) e).1
