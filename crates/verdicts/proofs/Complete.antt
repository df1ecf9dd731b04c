-- Where the media data are covered, the sweep passes: each step goes on, and what it leaves is covered. Assumes nothing.
use Prim.Native.Nat.{ℕ, zero, suc, ◌+◌, ◌≤◌, ◌<◌}
use mathlib.Core.Path.{◌≡◌, refl, sym, ◌∙◌, subst}
use mathlib.Core.Logic.{◌⊎◌, inl, inr, ⊎_elim}
use mathlib.Core.List.{List, [], ◌∷◌}
use mathlib.Core.Bool.{Bool, true, false}
use native.Mathlib.Omega.{arith}
use lib.ListN.{length}
use lib.Dec.{ltb, eqb}
use borrow.Author.Tests.{ltb-true, ltb-false, eqb-true, eqb-false, le-ltb, le-leb}
use Rattle.numbers.specs.Field.{when}
use Rattle.samples.specs.declared.Sample.{Sample}
use Rattle.verdicts.specs.Findings.{Track, track, samples_of, Claim, claim, Span, Answer, passes}
use Rattle.verdicts.specs.Sweep.{below, heads, advance, leftover, go, rest, take, step, cont, run, sum_in, total, sweep_from, sweep}
use Rattle.verdicts.specs.Meaning.{All, First, Neighbours, AllIn, NeighboursIn, holds, count, InSome, Within, Good, Earlier, InOrder, Covered}
use Rattle.verdicts.proofs.Laws.{all_map, all-map₂, alls-map, holds-in, holds-below, holds-above, sum-later, within-from, some-from, AllOf, all-forth, heads-at, order-forth}
use Rattle.verdicts.proofs.Sound.{NonEmpty, sum_one}

-- none starts below p
below_none : (p : ℕ) (ts : List Track) → AllIn (λ s. p ≤ s.offset) ts → below p ts ≡ []
unfolding when
below_none p [] h = refl
below_none p (track n a [] ∷ ts) h = below_none p ts h.1
below_none p (track n a (s ∷ l) ∷ ts) h = rw (le-ltb s.offset p h.0.0) (below_none p ts h.1)

-- as many samples hold p as start at p, where none starts below p

ordered-all : (q : ℕ) (l : List Sample) → First (λ s. q ≤ s.offset) l → Neighbours Earlier l → All (λ s. q ≤ s.offset) l
ordered-all q [] a o = tt
ordered-all q (s ∷ l) a o =
    (a, all_map (λ u. s.offset + s.size ≤ u.offset) (λ u. q ≤ u.offset) (λ u z. omega arith) l (ordered-all (s.offset + s.size) l o.0 o.1))

count-heads : (p : ℕ) (ts : List Track) → AllIn (λ s. p ≤ s.offset) ts → NeighboursIn Earlier ts → NonEmpty ts → count p ts ≡ length (heads p ts)
unfolding when
count-heads p [] h o n = refl
count-heads p (track t a [] ∷ ts) h o n = omega (arith, count-heads p ts h.1 o.1 n.1)
count-heads p (track t a (s ∷ l) ∷ ts) h o n = cases (eqb s.offset p) refl (count-heads p ts h.1 o.1 n.1)
  where
    later : sum_in (holds p) l ≡ 0
    later = sum-later (s.offset + s.size) p l (omega (arith, h.0.0, n.0.0)) (ordered-all (s.offset + s.size) l o.0.0 o.0.1)

    cases : (x : Bool) → eqb s.offset p ≡ x → count p ts ≡ length (heads p ts)
        → (holds p s + sum_in (holds p) l) + count p ts ≡ length (when x (claim t s ∷ heads p ts) (heads p ts))
    cases true e i =
        let q = eqb-true s.offset p e in
        omega (arith, later, holds-in p s (omega (arith, q)) (omega (arith, q, n.0.0)))
    cases false e i = omega (arith, later, holds-below p s (omega (arith, h.0.0, eqb-false s.offset p e)))

one_of : (hs : List Claim) → length hs ≡ 1 → (x : Claim) × (hs ≡ x ∷ [])
one_of [] e = absurd (omega arith)
one_of (x ∷ []) e = (x, refl)
one_of (x ∷ y ∷ hs) e = absurd (omega arith)

-- a sample holds its own first byte

own-byte : (N : ℕ → ℕ) (l : List Sample) → ((b : ℕ) → sum_in (holds b) l ≤ N b) → All (λ s. 0 < s.size) l → All (λ s. 1 ≤ N s.offset) l
own-byte N [] h n = tt
own-byte N (s ∷ l) h n =
    (omega (arith, h s.offset, holds-in s.offset s (omega arith) (omega (arith, n.0))), own-byte N l (λ b. omega (arith, h b)) n.1)

own-bytes : (N : ℕ → ℕ) (ts : List Track) → ((b : ℕ) → count b ts ≤ N b) → NonEmpty ts → AllIn (λ s. 1 ≤ N s.offset) ts
own-bytes N [] h n = tt
own-bytes N (track t a l ∷ ts) h n = (own-byte N l (λ b. omega (arith, h b)) n.0, own-bytes N ts (λ b. omega (arith, h b)) n.1)

-- a step leaves what is covered

skip-covered : (c : Span) (m : List Span) (ts : List Track) → c.from ≡ c.to → Covered (c ∷ m) ts → Covered m ts
skip-covered c m ts e h = record {
  once = λ b w. h.once b (inr w);
  whole = alls-map (Good (c ∷ m)) (Good m)
      (λ s g. (g.0, ⊎_elim (λ (u : (c.from ≤ s.offset) × (s.offset + s.size ≤ c.to)). absurd (omega (arith, g.0))) (λ u. u) g.1)) ts h.whole;
  order = h.order;
}

module _ (c : Span) (m : List Span) (ts : List Track) (o : InOrder (c ∷ m)) (lt : c.from < c.to) (h : Covered (c ∷ m) ts) where
  filled : NonEmpty ts
  filled = alls-map (Good (c ∷ m)) (λ s. 0 < s.size) (λ s g. g.0) ts h.whole

  from-p : AllIn (λ s. c.from ≤ s.offset) ts
  from-p =
      alls-map (Good (c ∷ m)) (λ s. c.from ≤ s.offset) (λ s g. within-from c.from s (c ∷ m) (omega arith) o g.1) ts h.whole

  the-head : (x : Claim) × (heads c.from ts ≡ x ∷ [])
  the-head =
      one_of (heads c.from ts) (sym (count-heads c.from ts from-p h.order filled) ∙ h.once c.from (inl (omega arith, lt)))

  module _ (x : Claim) (he : heads c.from ts ≡ x ∷ []) where
    at_p : x.sample.offset ≡ c.from
    at_p = (subst (AllOf (λ u. u.offset ≡ c.from)) he (heads-at c.from ts)).0

    x-good : Good (c ∷ m) x.sample
    x-good = (subst (AllOf (Good (c ∷ m))) he (all-forth (Good (c ∷ m)) c.from ts h.whole).1).0

    x_fits : c.from + x.sample.size ≤ c.to
    x_fits =
        ⊎_elim (λ (u : (c.from ≤ x.sample.offset) × (x.sample.offset + x.sample.size ≤ c.to)). omega (arith, at_p))
        (λ (u : Within m x.sample). absurd (omega (arith, at_p, within-from c.to x.sample m o.1 o.2 u))) x-good.1

    -- a byte that two samples would hold
    rest-good : (u : Sample) → Good (c ∷ m) u → 1 ≤ count u.offset (advance c.from ts) → Good (rest c x.sample.size ∷ m) u
    rest-good u g k = (g.0, ⊎_elim inside (λ w. inr w) g.1)
      where
        inside : (c.from ≤ u.offset) × (u.offset + u.size ≤ c.to) → Within (rest c x.sample.size ∷ m) u
        inside w = cases (ltb u.offset (c.from + x.sample.size)) refl
          where
            cases : (y : Bool) → ltb u.offset (c.from + x.sample.size) ≡ y → Within (rest c x.sample.size ∷ m) u
            cases true e =
                absurd
                (omega (
                  arith,
                  k,
                  h.once u.offset (inl (w.0, omega (arith, g.0))),
                  sum_one c m ts x o he x_fits (holds u.offset),
                  holds-in u.offset x.sample (omega (arith, at_p)) (omega (arith, at_p, ltb-true u.offset (c.from + x.sample.size) e)),
                ))
            cases false e = inl (ltb-false u.offset (c.from + x.sample.size) e, w.1)

    take-covered : Covered (rest c x.sample.size ∷ m) (advance c.from ts)
    take-covered = record {
      once = once-left;
      whole = all-map₂ (λ t. All (Good (c ∷ m)) (samples_of t)) (λ t. All (λ u. 1 ≤ count u.offset (advance c.from ts)) (samples_of t))
          (λ t. All (Good (rest c x.sample.size ∷ m)) (samples_of t))
          (λ t. all-map₂ (Good (c ∷ m)) (λ u. 1 ≤ count u.offset (advance c.from ts)) (Good (rest c x.sample.size ∷ m)) rest-good (samples_of t))
          (advance c.from ts) (all-forth (Good (c ∷ m)) c.from ts h.whole).0
          (own-bytes (λ b. count b (advance c.from ts)) (advance c.from ts) (λ b. omega arith) (all-forth (λ u. 0 < u.size) c.from ts filled).0);
      order = order-forth c.from ts h.order;
    }
      where
        once-left : (b : ℕ) → InSome b (rest c x.sample.size ∷ m) → count b (advance c.from ts) ≡ 1
        once-left b (inl w) =
            omega (arith, h.once b (inl (omega arith, w.1)), sum_one c m ts x o he x_fits (holds b), holds-above b x.sample (omega (arith, at_p)))
        once-left b (inr w) =
            omega (
              arith,
              h.once b (inr w),
              sum_one c m ts x o he x_fits (holds b),
              holds-above b x.sample (omega (arith, at_p, x_fits, some-from c.to b m o.1 o.2 w)),
            )

nothing_left : (all : List Span) (ts : List Track) → AllIn (Good []) ts → leftover all ts ≡ passes
nothing_left all [] h = refl
nothing_left all (track n a [] ∷ ts) h = nothing_left all ts h.1
nothing_left all (track n a (s ∷ l) ∷ ts) h = absurd h.0.0.1

module _ (n : ℕ) (all : List Span) (k : List Span → List Track → Answer)
    (ih : (m : List Span) (ts : List Track) → InOrder m → Covered m ts → length m + total ts < n → k m ts ≡ passes) where
  step-complete : (m : List Span) (ts : List Track) → InOrder m → Covered m ts → length m + total ts < suc n → cont k (step all m ts) ≡ passes
  unfolding when
  step-complete [] ts o h f = nothing_left all ts h.whole
  step-complete (c ∷ m) ts o h f = cases (eqb c.from c.to) refl
    where
      cases : (x : Bool) → eqb c.from c.to ≡ x
          → cont k (when x (go m ts) (take all c m ts (below c.from ts) (heads c.from ts))) ≡ passes
      cases true e = ih m ts o.2 (skip-covered c m ts (eqb-true c.from c.to e) h) (omega arith)
      cases false e =
          let lt : c.from < c.to = omega (arith, o.0, eqb-false c.from c.to e) in
          let (x, he) = the-head c m ts o lt h in
          let fits = x_fits c m ts o lt h x he in
          rw (below_none c.from ts (from-p c m ts o lt h), he, le-leb (c.from + x.sample.size) c.to fits)
          (ih (rest c x.sample.size ∷ m) (advance c.from ts) (fits, o.1, o.2) (take-covered c m ts o lt h x he)
          (omega (arith, sum_one c m ts x o he fits (λ s. 1))))

run-complete : (n : ℕ) (all m : List Span) (ts : List Track) → InOrder m → Covered m ts → length m + total ts < n → run n all m ts ≡ passes
run-complete zero all m ts o h f = absurd (omega arith)
run-complete (suc n) all m ts o h f = step-complete n all (run n all) (run-complete n all) m ts o h f

pub sweep-complete : (m : List Span) (ts : List Track) → InOrder m → Covered m ts → sweep m ts ≡ passes
unfolding sweep_from
sweep-complete m ts o h = run-complete (suc (length m + total ts)) m m ts o h (omega arith)
