-- Laws of lists of tracks: of their samples, of one byte, of payloads, and of what `advance` leaves. Assumes nothing.
use Prim.Native.Nat.{ℕ, ◌+◌, ◌≤◌, ◌<◌}
use mathlib.Core.Path.{◌≡◌, refl}
use mathlib.Core.Logic.{inl, inr}
use mathlib.Core.List.{List, [], ◌∷◌, ◌++◌}
use mathlib.Core.Bool.{Bool, true, false, ◌&&◌}
use native.Mathlib.Omega.{arith}
use lib.Dec.{eqb}
use borrow.Author.Tests.{eqb-true, lt-ltb, le-ltb, le-leb, lt-leb}
use Rattle.numbers.specs.Field.{when}
use Rattle.samples.specs.declared.Sample.{Sample}
use Rattle.verdicts.specs.Findings.{Track, track, samples_of, Claim, claim, Span}
use Rattle.verdicts.specs.Sweep.{heads, advance, sum_in, sum_all}
use Rattle.verdicts.specs.Meaning.{All, First, Neighbours, AllIn, NeighboursIn, holds, count, InSome, Within, Earlier, InOrder}

-- ALL

module _ {A : Type 0} where
  pub all_map : (P Q : A → Type 0) → ((x : A) → P x → Q x) → (l : List A) → All P l → All Q l
  all_map P Q f [] h = tt
  all_map P Q f (x ∷ l) h = (f x h.0, all_map P Q f l h.1)

  pub all-map₂ : (P Q R : A → Type 0) → ((x : A) → P x → Q x → R x) → (l : List A) → All P l → All Q l → All R l
  all-map₂ P Q R f [] h k = tt
  all-map₂ P Q R f (x ∷ l) h k = (f x h.0 k.0, all-map₂ P Q R f l h.1 k.1)

  pub all_join : (P : A → Type 0) (l r : List A) → All P l → All P r → All P (l ++ r)
  all_join P [] r h k = k
  all_join P (x ∷ l) r h k = (h.0, all_join P l r h.1 k)

  pub all_split : (P : A → Type 0) (l r : List A) → All P (l ++ r) → All P l × All P r
  all_split P [] r h = (tt, h)
  all_split P (x ∷ l) r h = let i = all_split P l r h.1 in ((h.0, i.0), i.1)

  first-of : (P : A → Type 0) (l : List A) → All P l → First P l
  first-of P [] h = tt
  first-of P (x ∷ l) h = h.0

pub alls-map : (P Q : Sample → Type 0) → ((x : Sample) → P x → Q x) → (ts : List Track) → AllIn P ts → AllIn Q ts
alls-map P Q f ts h = all_map (λ t. All P (samples_of t)) (λ t. All Q (samples_of t)) (λ t. all_map P Q f (samples_of t)) ts h

-- ONE BYTE AND ONE SAMPLE

and-false : (x : Bool) → (x && false) ≡ false
and-false true = refl
and-false false = refl

module _ (b : ℕ) (s : Sample) where
  pub holds-in : s.offset ≤ b → b < s.offset + s.size → holds b s ≡ 1
  unfolding when
  holds-in h k = rw (le-leb s.offset b h, lt-ltb b (s.offset + s.size) k)

  pub holds-below : b < s.offset → holds b s ≡ 0
  unfolding when
  holds-below h = rw (lt-leb s.offset b h)

  pub holds-above : s.offset + s.size ≤ b → holds b s ≡ 0
  unfolding when
  holds-above h = rw (le-ltb b (s.offset + s.size) h, and-false)

-- what begins later does not hold b
pub sum-later : (q b : ℕ) (l : List Sample) → b < q → All (λ s. q ≤ s.offset) l → sum_in (holds b) l ≡ 0
sum-later q b [] h k = refl
sum-later q b (s ∷ l) h k = omega (arith, holds-below b s (omega (arith, k.0)), sum-later q b l h k.1)

pub count-later : (q b : ℕ) (ts : List Track) → b < q → AllIn (λ s. q ≤ s.offset) ts → count b ts ≡ 0
count-later q b [] h k = refl
count-later q b (track n a l ∷ ts) h k = omega (arith, sum-later q b l h k.0, count-later q b ts h k.1)

-- PAYLOADS

pub within-from : (q : ℕ) (s : Sample) (m : List Span) → First (λ c. q ≤ c.from) m → InOrder m → Within m s → q ≤ s.offset
within-from q s [] f o w = absurd w
within-from q s (c ∷ m) f o (inl w) = omega arith
within-from q s (c ∷ m) f o (inr w) = omega (arith, within-from c.to s m o.1 o.2 w)

pub some-from : (q b : ℕ) (m : List Span) → First (λ c. q ≤ c.from) m → InOrder m → InSome b m → q ≤ b
some-from q b [] f o w = absurd w
some-from q b (c ∷ m) f o (inl w) = omega arith
some-from q b (c ∷ m) f o (inr w) = omega (arith, some-from c.to b m o.1 o.2 w)

-- WHAT IS TAKEN AND WHAT IS LEFT

abbrev pub sum_of : (Sample → ℕ) → List Claim → ℕ
sum_of f [] = 0
sum_of f (x ∷ l) = f x.sample + sum_of f l

abbrev pub AllOf : (Sample → Type 0) → List Claim → Type 0
AllOf P xs = All (λ x. P x.sample) xs

module _ (f : Sample → ℕ) (p : ℕ) where
  pub sum-advance : (ts : List Track) → sum_all f ts ≡ sum_all f (advance p ts) + sum_of f (heads p ts)
  unfolding when
  sum-advance [] = refl
  sum-advance (track n a [] ∷ ts) = omega (arith, sum-advance ts)
  sum-advance (track n a (s ∷ l) ∷ ts) = cases (eqb s.offset p) (sum-advance ts)
    where
      cases : (x : Bool) → sum_all f ts ≡ sum_all f (advance p ts) + sum_of f (heads p ts)
          → (f s + sum_in f l) + sum_all f ts ≡ (sum_in f (when x l (s ∷ l)) + sum_all f (advance p ts)) + sum_of f (when x (claim n s ∷ heads p ts) (heads p ts))
      cases true e = omega arith
      cases false e = omega arith

module _ (P : Sample → Type 0) (p : ℕ) where
  pub all_back : (ts : List Track) → AllIn P (advance p ts) → AllOf P (heads p ts) → AllIn P ts
  unfolding when
  all_back [] h k = tt
  all_back (track n a [] ∷ ts) h k = (tt, all_back ts h.1 k)
  all_back (track n a (s ∷ l) ∷ ts) h k = cases (eqb s.offset p) (all_back ts) h k
    where
      cases : (x : Bool) → (AllIn P (advance p ts) → AllOf P (heads p ts) → AllIn P ts)
          → All P (when x l (s ∷ l)) × AllIn P (advance p ts) → AllOf P (when x (claim n s ∷ heads p ts) (heads p ts)) → AllIn P (track n a (s ∷ l) ∷ ts)
      cases true i h k = ((k.0, h.0), i h.1 k.1)
      cases false i h k = (h.0, i h.1 k)

  pub all-forth : (ts : List Track) → AllIn P ts → AllIn P (advance p ts) × AllOf P (heads p ts)
  unfolding when
  all-forth [] h = (tt, tt)
  all-forth (track n a [] ∷ ts) h = let i = all-forth ts h.1 in ((tt, i.0), i.1)
  all-forth (track n a (s ∷ l) ∷ ts) h = cases (eqb s.offset p) (all-forth ts h.1)
    where
      cases : (x : Bool) → AllIn P (advance p ts) × AllOf P (heads p ts)
          → (All P (when x l (s ∷ l)) × AllIn P (advance p ts)) × AllOf P (when x (claim n s ∷ heads p ts) (heads p ts))
      cases true i = ((h.0.1, i.0), (h.0.0, i.1))
      cases false i = ((h.0, i.0), i.1)

pub heads-at : (p : ℕ) (ts : List Track) → AllOf (λ s. s.offset ≡ p) (heads p ts)
unfolding when
heads-at p [] = tt
heads-at p (track n a [] ∷ ts) = heads-at p ts
heads-at p (track n a (s ∷ l) ∷ ts) = cases (eqb s.offset p) refl (heads-at p ts)
  where
    cases : (x : Bool) → eqb s.offset p ≡ x → AllOf (λ s. s.offset ≡ p) (heads p ts)
        → AllOf (λ s. s.offset ≡ p) (when x (claim n s ∷ heads p ts) (heads p ts))
    cases true e i = (eqb-true s.offset p e, i)
    cases false e i = i

-- samples that end at q or before it, in front of samples that begin at q or later
pub order-back : (p q : ℕ) (ts : List Track) → NeighboursIn Earlier (advance p ts) → AllIn (λ s. q ≤ s.offset) (advance p ts)
    → AllOf (λ s. s.offset + s.size ≤ q) (heads p ts) → NeighboursIn Earlier ts
unfolding when
order-back p q [] o h k = tt
order-back p q (track n a [] ∷ ts) o h k = (tt, order-back p q ts o.1 h.1 k)
order-back p q (track n a (s ∷ l) ∷ ts) o h k = cases (eqb s.offset p) (order-back p q ts) o h k
  where
    cases : (x : Bool)
        → (NeighboursIn Earlier (advance p ts) → AllIn (λ s. q ≤ s.offset) (advance p ts) → AllOf (λ s. s.offset + s.size ≤ q) (heads p ts) → NeighboursIn Earlier ts)
        → Neighbours Earlier (when x l (s ∷ l)) × NeighboursIn Earlier (advance p ts)
        → All (λ s. q ≤ s.offset) (when x l (s ∷ l)) × AllIn (λ s. q ≤ s.offset) (advance p ts)
        → AllOf (λ s. s.offset + s.size ≤ q) (when x (claim n s ∷ heads p ts) (heads p ts)) → NeighboursIn Earlier (track n a (s ∷ l) ∷ ts)
    cases true i o h k =
        ((first-of (Earlier s) l (all_map (λ u. q ≤ u.offset) (Earlier s) (λ u z. omega arith) l h.0), o.0), i o.1 h.1 k.1)
    cases false i o h k = (o.0, i o.1 h.1 k)

pub order-forth : (p : ℕ) (ts : List Track) → NeighboursIn Earlier ts → NeighboursIn Earlier (advance p ts)
unfolding when
order-forth p [] o = tt
order-forth p (track n a [] ∷ ts) o = (tt, order-forth p ts o.1)
order-forth p (track n a (s ∷ l) ∷ ts) o = (cases (eqb s.offset p), order-forth p ts o.1)
  where
    cases : (x : Bool) → Neighbours Earlier (when x l (s ∷ l))
    cases true = o.0.1
    cases false = o.0
