-- What the next box in a parent is to all of them, for callers that go from one to the next. Assumes nothing.
use mathlib.Core.Path.{◌≡◌, refl, sym, ap, ◌∙◌}
use mathlib.Core.List.{List, [], ◌∷◌}
use mathlib.Core.Bool.{Bool, true, false}
use Prim.Native.Nat.{ℕ, zero, suc, ◌+◌, ◌-◌, ◌<◌, ◌≤◌, min}
use native.Mathlib.Omega.{arith}
use Rattle.numbers.specs.Field.{when}
use Rattle.places.specs.Visit.{box_limit}
use Rattle.kin.specs.Kin.{Boxes}
use Rattle.inside.specs.Inside.{in_parent, next_in, rows_in, next_of, inside_of, child}

module _ (t : Boxes) (kind p : ℕ) where
  none_in : (k i : ℕ) → next_in t kind p k i ≡ 0 → rows_in t kind p k i ≡ []
  unfolding next_in rows_in when
  none_in zero i e = refl
  none_in (suc k) i e = by (in_parent t kind p i) (none_in k (i + 1)) e
    where
      by : (r : Bool) → (next_in t kind p k (i + 1) ≡ 0 → rows_in t kind p k (i + 1) ≡ []) →
          when r (i + 1) (next_in t kind p k (i + 1)) ≡ 0 → when r ((i + 1) ∷ rows_in t kind p k (i + 1)) (rows_in t kind p k (i + 1)) ≡ []
      by true ih e = absurd (omega (arith, e))
      by false ih e = ih e

  -- where there is one, it lies among the rows
  lies_in : (k i : ℕ) → (next_in t kind p k i ≡ 0 → ⊥) → (i < next_in t kind p k i) × (next_in t kind p k i ≤ i + k)
  unfolding next_in when
  lies_in zero i o = absurd (o refl)
  lies_in (suc k) i o = by (in_parent t kind p i) (lies_in k (i + 1)) o
    where
      by : (r : Bool) → ((next_in t kind p k (i + 1) ≡ 0 → ⊥) → (i + 1 < next_in t kind p k (i + 1)) × (next_in t kind p k (i + 1) ≤ i + 1 + k)) →
          (when r (i + 1) (next_in t kind p k (i + 1)) ≡ 0 → ⊥) →
          (i < when r (i + 1) (next_in t kind p k (i + 1))) × (when r (i + 1) (next_in t kind p k (i + 1)) ≤ i + suc k)
      by true ih o = (omega arith, omega arith)
      by false ih o = (omega (arith, (ih o).0), omega (arith, (ih o).1))

  more-in : (end k i : ℕ) → end - i ≡ k → (next_in t kind p k i ≡ 0 → ⊥) →
      rows_in t kind p k i ≡ next_in t kind p k i ∷ rows_in t kind p (end - next_in t kind p k i) (next_in t kind p k i)
  unfolding next_in rows_in when
  more-in end zero i e o = absurd (o refl)
  more-in end (suc k) i e o = by (in_parent t kind p i) (let z : end - (i + 1) ≡ k = omega arith in z) (more-in end k (i + 1)) o
    where
      by : (r : Bool) → end - (i + 1) ≡ k →
          (end - (i + 1) ≡ k → (next_in t kind p k (i + 1) ≡ 0 → ⊥) →
          rows_in t kind p k (i + 1) ≡ next_in t kind p k (i + 1) ∷ rows_in t kind p (end - next_in t kind p k (i + 1)) (next_in t kind p k (i + 1))) →
          (when r (i + 1) (next_in t kind p k (i + 1)) ≡ 0 → ⊥) →
          when r ((i + 1) ∷ rows_in t kind p k (i + 1)) (rows_in t kind p k (i + 1))
          ≡ when r (i + 1) (next_in t kind p k (i + 1))
          ∷ rows_in t kind p (end - when r (i + 1) (next_in t kind p k (i + 1))) (when r (i + 1) (next_in t kind p k (i + 1)))
      by true z ih o = ap (λ k. (i + 1) ∷ rows_in t kind p k (i + 1)) (sym z)
      by false z ih o = ih z o

  -- the answer r of `next` from row `from` on, where n boxes are recorded
  module _ (n from r : ℕ) (e : r ≡ next_of t n kind p from) where
    -- 0: there are no more
    pub next-none : r ≡ 0 → inside_of t n kind p from ≡ []
    next-none h = none_in (min n box_limit - from) from (sym e ∙ h)

    there : (r ≡ 0 → ⊥) → next_of t n kind p from ≡ 0 → ⊥
    there o z = o (e ∙ z)

    -- else it is the first, and the others are those from row r on
    pub next_more : (r ≡ 0 → ⊥) → inside_of t n kind p from ≡ r ∷ inside_of t n kind p r
    next_more o =
        more-in (min n box_limit) (min n box_limit - from) from refl (there o)
        ∙ ap (λ x. x ∷ inside_of t n kind p x) (sym e)

    pub next-behind : (r ≡ 0 → ⊥) → from < r
    next-behind o = omega (arith, e, (lies_in (min n box_limit - from) from (there o)).0)

    pub next-most : (r ≡ 0 → ⊥) → r ≤ min n box_limit
    next-most o = omega (arith, e, (lies_in (min n box_limit - from) from (there o)).0, (lies_in (min n box_limit - from) from (there o)).1)

  next-in-most : (k i : ℕ) → next_in t kind p k i ≤ i + k
  unfolding next_in when
  next-in-most zero i = omega arith
  next-in-most (suc k) i = by (in_parent t kind p i) (next-in-most k (i + 1))
    where
      by : (r : Bool) → next_in t kind p k (i + 1) ≤ i + 1 + k → when r (i + 1) (next_in t kind p k (i + 1)) ≤ i + suc k
      by true ih = omega arith
      by false ih = omega (arith, ih)

  -- the first of all: its row and 1 is at most the number of the rows
  pub child-most : (n : ℕ) → child t n kind p ≤ min n box_limit
  unfolding child
  child-most n = omega (arith, next-in-most (min n box_limit - 0) 0)

  -- the definitions of the first, and of the next from row 0 on, are the same
  pub child-next : (n : ℕ) → child t n kind p ≡ next_of t n kind p 0
  unfolding child
  child-next n = refl
