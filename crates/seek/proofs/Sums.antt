-- Sums of lists, and lists that begin with so many of one number. Assumes nothing.
use Prim.Native.Nat.{ℕ, zero, suc, ◌+◌, ◌-◌, ◌*◌, ◌≤◌, ◌<◌, min}
use mathlib.Core.Path.{◌≡◌, refl, sym, ap, ◌∙◌}
use mathlib.Core.List.{List, [], ◌∷◌, ◌++◌}
use native.Mathlib.Omega.{arith}
use native.Mathlib.Nat.{zero-mul, suc-mul, sub-zero}
use lib.ListN.{length, take, drop, replicate}
use Rattle.tables.specs.Tables.{list_from, sum}

pub sum-append : (a b : List ℕ) → sum (a ++ b) ≡ sum a + sum b
sum-append [] b = omega arith
sum-append (x ∷ a) b = omega (arith, sum-append a b)

pub sum_same : (n v : ℕ) → sum (replicate n v) ≡ n * v
sum_same zero v = sym (zero-mul v)
sum_same (suc n) v = omega (arith, sum_same n v, suc-mul n v)

-- so many of one number, and what comes after them
module _ (v : ℕ) (l : List ℕ) where
  pub take_past : (c k : ℕ) → c ≤ k → take k (replicate c v ++ l) ≡ replicate c v ++ take (k - c) l
  take_past zero k h = ap (λ (n : ℕ). take n l) (sym (sub-zero k))
  take_past (suc c) zero h = absurd (omega arith)
  take_past (suc c) (suc k) h =
      let e : suc k - suc c ≡ k - c = omega arith in
      ap (λ (x : List ℕ). v ∷ x) (take_past c k (omega arith) ∙ ap (λ (n : ℕ). replicate c v ++ take n l) (sym e))

  pub take_in : (c k : ℕ) → k ≤ c → take k (replicate c v ++ l) ≡ replicate k v
  take_in zero zero h = refl
  take_in zero (suc k) h = absurd (omega arith)
  take_in (suc c) zero h = refl
  take_in (suc c) (suc k) h = ap (λ (x : List ℕ). v ∷ x) (take_in c k (omega arith))

  pub drop_past : (c k : ℕ) → c ≤ k → drop k (replicate c v ++ l) ≡ drop (k - c) l
  drop_past zero k h = ap (λ (n : ℕ). drop n l) (sym (sub-zero k))
  drop_past (suc c) zero h = absurd (omega arith)
  drop_past (suc c) (suc k) h =
      let e : suc k - suc c ≡ k - c = omega arith in
      drop_past c k (omega arith) ∙ ap (λ (n : ℕ). drop n l) (sym e)

  pub drop-in : (c k : ℕ) → k < c → drop k (replicate c v ++ l) ≡ v ∷ drop (suc k) (replicate c v ++ l)
  drop-in zero k h = absurd (omega arith)
  drop-in (suc c) zero h = refl
  drop-in (suc c) (suc k) h = drop-in c k (omega arith)

  -- as many of them as are taken
  pub take-least : (c k m : ℕ) → m ≡ min c k → take k (replicate c v ++ l) ≡ replicate m v ++ take (k - m) l
  take-least zero k zero h = ap (λ (n : ℕ). take n l) (sym (sub-zero k))
  take-least zero k (suc m) h = absurd (omega arith)
  take-least (suc c) zero zero h = refl
  take-least (suc c) zero (suc m) h = absurd (omega arith)
  take-least (suc c) (suc k) zero h = absurd (omega arith)
  take-least (suc c) (suc k) (suc m) h =
      let e : suc k - suc m ≡ k - m = omega arith in
      ap (λ (x : List ℕ). v ∷ x) (take-least c k m (omega arith) ∙ ap (λ (n : ℕ). replicate m v ++ take n l) (sym e))

  pub length_run : (c : ℕ) → length (replicate c v ++ l) ≡ c + length l
  length_run zero = omega arith
  length_run (suc c) = omega (arith, length_run c)

  pub sum-run : (c : ℕ) → sum (replicate c v ++ l) ≡ c * v + sum l
  sum-run c = omega (arith, sum-append (replicate c v) l, sum_same c v)

-- numbers by their number, all alike
pub sum_alike : (g : ℕ → ℕ) (v : ℕ) → ((i : ℕ) → v ≡ g i) → (n i : ℕ) → n * v ≡ sum (list_from g n i)
sum_alike g v e zero i = zero-mul v
sum_alike g v e (suc n) i = omega (arith, sum_alike g v e n (suc i), e i, suc-mul n v)
