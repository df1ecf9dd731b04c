-- What the payloads are to each other and to the next. Assumes nothing.
use mathlib.Core.Path.{◌≡◌, refl, sym, ap, subst, ◌∙◌}
use mathlib.Core.List.{List, [], ◌∷◌}
use mathlib.Core.Bool.{Bool, true, false}
use Prim.Native.Nat.{ℕ, zero, suc, ◌+◌, ◌-◌, ◌<◌, ◌≤◌, min}
use native.Mathlib.Omega.{arith}
use Rattle.numbers.specs.Field.{when}
use Rattle.places.specs.Visit.{box_limit}
use Rattle.kin.specs.Kin.{Boxes, at}
use Rattle.verdicts.specs.Findings.{Span}
use Rattle.verdicts.specs.Meaning.{First, InOrder}
use Rattle.payloads.specs.Payloads.{is_media, to_of, from_of, span, payloads_in, payloads_from, next_in, next_of}
use Rattle.payloads.specs.declared.Payload.{Payload}
use Rattle.payloads.specs.declared.Payload.TheVariants.{At, End}

module _ (f : List ℕ) (t : Boxes) (n : ℕ) where
  -- the payload that was told, and those from the row after it on
  abbrev pub follow : Payload → List Span
  follow (At from to row) = span from to ∷ payloads_from f t n row
  follow End = []

  follow-in : (k i : ℕ) → min n box_limit - i ≡ k → follow (next_in f t k i) ≡ payloads_in f t k i
  unfolding next_in payloads_in when
  follow-in zero i e = refl
  follow-in (suc k) i e = by (is_media t i) (let z : min n box_limit - (i + 1) ≡ k = omega arith in z) (λ e. follow-in k (i + 1) e)
    where
      by : (r : Bool) → min n box_limit - (i + 1) ≡ k → (min n box_limit - (i + 1) ≡ k → follow (next_in f t k (i + 1)) ≡ payloads_in f t k (i + 1)) →
          follow (when r (At (from_of f t i) (to_of f t i) (i + 1)) (next_in f t k (i + 1)))
          ≡ when r (span (from_of f t i) (to_of f t i) ∷ payloads_in f t k (i + 1)) (payloads_in f t k (i + 1))
      by true z ih = ap (λ k. span (from_of f t i) (to_of f t i) ∷ payloads_in f t k (i + 1)) z
      by false z ih = ih z

  -- the next is the first of the payloads, and those from its row on are the others
  pub next-is-first : (i : ℕ) → follow (next_of f t n i) ≡ payloads_from f t n i
  next-is-first i = follow-in (min n box_limit - i) i refl

  -- none of them ends before it begins
  abbrev Forward : Payload → Type 0
  Forward (At from to row) = from ≤ to
  Forward End = Unit {0}

  forward-in : (k i : ℕ) → Forward (next_in f t k i)
  unfolding next_in when
  forward-in zero i = tt
  forward-in (suc k) i = by (is_media t i) (forward-in k (i + 1))
    where
      by : (r : Bool) → Forward (next_in f t k (i + 1)) → Forward (when r (At (from_of f t i) (to_of f t i) (i + 1)) (next_in f t k (i + 1)))
      by true ih = omega arith
      by false ih = ih

  -- what is told, step by step
  module _ (i : ℕ) (r : Payload) (e : r ≡ next_of f t n i) where
    pub told-end : r ≡ End → [] ≡ payloads_from f t n i
    told-end q = ap follow (sym q ∙ e) ∙ next-is-first i

    module _ (from to row : ℕ) (q : r ≡ At from to row) where
      pub told_more : span from to ∷ payloads_from f t n row ≡ payloads_from f t n i
      told_more = ap follow (sym q ∙ e) ∙ next-is-first i

      pub told-forward : from ≤ to
      told-forward = subst Forward (sym e ∙ q) (forward-in (min n box_limit - i) i)

-- ORDER

-- each mdat at the top ends before the next such begins
abbrev pub Apart : Boxes → ℕ → Type 0
Apart t n =
    (i j : ℕ) → i < j → j < n → is_media t i ≡ true → is_media t j ≡ true → at t.starts i + at t.sizes i ≤ at t.starts j

module _ (f : List ℕ) (t : Boxes) where
  begins : (i : ℕ) → from_of f t i ≤ to_of f t i
  begins i = omega arith

  follows : (i j : ℕ) → at t.starts i + at t.sizes i ≤ at t.starts j → to_of f t i ≤ from_of f t j
  follows i j h = omega (arith, h)

  -- what the first of the rows from j on is, for a row i before them
  first-follows : (n i k j : ℕ) → Apart t n → is_media t i ≡ true → i < j → j + k ≤ n → First (λ d. to_of f t i ≤ d.from) (payloads_in f t k j)
  unfolding payloads_in when
  first-follows n i zero j a s l h = tt
  first-follows n i (suc k) j a s l h = by (is_media t j) refl (first-follows n i k (j + 1) a s (omega arith) (omega arith))
    where
      by : (r : Bool) → is_media t j ≡ r → First (λ d. to_of f t i ≤ d.from) (payloads_in f t k (j + 1)) →
          First (λ d. to_of f t i ≤ d.from) (when r (span (from_of f t j) (to_of f t j) ∷ payloads_in f t k (j + 1)) (payloads_in f t k (j + 1)))
      by true e ih = follows i j (a i j l (omega arith) s e)
      by false e ih = ih

  order-in : (n k i : ℕ) → Apart t n → i + k ≤ n → InOrder (payloads_in f t k i)
  unfolding payloads_in when
  order-in n zero i a h = tt
  order-in n (suc k) i a h =
      by (is_media t i) refl (order-in n k (i + 1) a (omega arith)) (λ s. first-follows n i k (i + 1) a s (omega arith) (omega arith))
    where
      by : (r : Bool) → is_media t i ≡ r → InOrder (payloads_in f t k (i + 1)) →
          (is_media t i ≡ true → First (λ d. to_of f t i ≤ d.from) (payloads_in f t k (i + 1))) →
          InOrder (when r (span (from_of f t i) (to_of f t i) ∷ payloads_in f t k (i + 1)) (payloads_in f t k (i + 1)))
      by true e ih next = (begins i, next e, ih)
      by false e ih next = ih

  -- the payloads are in the order of the file, and apart
  pub in_order : (n : ℕ) → Apart t (min n box_limit) → InOrder (payloads_from f t n 0)
  in_order n a = order-in (min n box_limit) (min n box_limit - 0) 0 a (omega arith)
