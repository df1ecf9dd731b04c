-- The first fault, box after box. Assumes nothing.
use Rattle.std.specs.Prelude.{Result, Ok, Err}
use mathlib.Core.Path.{◌≡◌, sym, ap, ◌∙◌}
use mathlib.Core.List.{List}
use Prim.Native.Nat.{ℕ, suc, ◌+◌, ◌-◌, ◌<◌, ◌≤◌}
use native.Mathlib.Omega.{arith}
use Rattle.numbers.specs.declared.Refusal.{Refusal}
use Rattle.rows.specs.Judge.{settle}
use Rattle.kin.specs.Kin.{Boxes}
use Rattle.tree.specs.declared.Scanned.{Scanned}
use Rattle.contents.specs.Contents.{box_fault}
use Rattle.opening.specs.Opening.{first_fault, content_fault, recorded, rest_of, refusal_of}

module _ (f : List ℕ) (t : Boxes) (n end i : ℕ) where
  pub over : end ≤ i → (Ok tt) ≡ first_fault f t n (end - i) i
  unfolding first_fault
  over h = sym (ap (λ k. first_fault f t n k i) (let z : end - i ≡ 0 = omega arith in z))

  step : i < end → first_fault f t n (end - i) i ≡ settle (first_fault f t n (end - (i + 1)) (i + 1)) Err (box_fault f t n i)
  unfolding first_fault
  step h = ap (λ k. first_fault f t n k i) (let z : end - i ≡ suc (end - (i + 1)) = omega arith in z)

  module _ (h : i < end) (j : Result (Unit {0}) Refusal) (e : j ≡ box_fault f t n i) where
    pub here : (q : Refusal) → j ≡ Err q → Err q ≡ first_fault f t n (end - i) i
    here q g = sym (step h ∙ ap (settle (first_fault f t n (end - (i + 1)) (i + 1)) Err) (sym e ∙ g))

    pub further : j ≡ (Ok tt) → first_fault f t n (end - (i + 1)) (i + 1) ≡ first_fault f t n (end - i) i
    further g = sym (step h ∙ ap (settle (first_fault f t n (end - (i + 1)) (i + 1)) Err) (sym e ∙ g))

-- all boxes from the first on
pub from_first : (f : List ℕ) (t : Boxes) (n end k : ℕ) → end ≡ k → first_fault f t n (end - 0) 0 ≡ first_fault f t n k 0
from_first f t n end k e = ap (λ k. first_fault f t n k 0) (let z : end - 0 ≡ k = omega (arith, e) in z)

module _ (f : List ℕ) (t : Boxes) (scanned : Scanned) (n : ℕ) (j : Result (Unit {0}) Refusal) (d : n ≡ recorded scanned) (e : j ≡ content_fault f t n) where
  fault-is : j ≡ content_fault f t (recorded scanned)
  fault-is = e ∙ ap (content_fault f t) d

  pub faulty : (q : Refusal) → j ≡ Err q → Err q ≡ refusal_of f t scanned
  unfolding refusal_of
  faulty q g = sym (ap (settle (rest_of f t scanned) Err) (sym fault-is ∙ g))

  pub faultless : (x : Result (Unit {0}) Refusal) → j ≡ (Ok tt) → x ≡ rest_of f t scanned → x ≡ refusal_of f t scanned
  unfolding refusal_of
  faultless x g r = r ∙ sym (ap (settle (rest_of f t scanned) Err) (sym fault-is ∙ g))
