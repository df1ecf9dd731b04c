-- A sweep that passes: the media data are covered. Each step's law says that what is left before it is covered if what
-- is left after it is. Assumes nothing.
use Prim.Native.Nat.{ℕ, zero, suc, ◌+◌, ◌≤◌, ◌<◌}
use mathlib.Core.Path.{◌≡◌, refl, ap, subst}
use mathlib.Core.Logic.{◌⊎◌, inl, inr, ⊎_elim}
use mathlib.Core.List.{List, [], ◌∷◌}
use mathlib.Core.Bool.{Bool, true, false}
use native.Mathlib.Omega.{arith}
use lib.ListN.{length}
use lib.Dec.{ltb, leb, eqb}
use borrow.Author.Tests.{ltb-true, ltb-false, leb-true, eqb-true}
use Rattle.numbers.specs.Field.{when}
use Rattle.samples.specs.declared.Sample.{Sample}
use Rattle.verdicts.specs.Findings.{Track, track, Claim, Span, F4, Answer, passes, found}
use Rattle.verdicts.specs.declared.Finding.{Finding}
use Rattle.verdicts.specs.Sweep.{below, heads, advance, leftover, stop, go, rest, take, step, cont, run, sum_all, total, sweep_from, sweep}
use Rattle.verdicts.specs.Meaning.{AllIn, NeighboursIn, holds, count, InSome, Good, Earlier, InOrder, Covered}
use Rattle.verdicts.proofs.Laws.{alls-map, holds-in, holds-above, count-later, within-from, some-from, sum_of, AllOf, sum-advance, all_back, all-forth, heads-at, order-back}

pub not-passes : (f : Finding) → found f ≡ passes → ⊥
not-passes f e = let z : ◌≡◌ {A = ℕ} 0 1 = cc in omega arith

abbrev pub NonEmpty : List Track → Type 0
NonEmpty ts = AllIn (λ s. 0 < s.size) ts

-- after the last payload
leftover-whole : (P : Sample → Type 0) (all : List Span) (ts : List Track) → leftover all ts ≡ passes → AllIn P ts
leftover-whole P all [] e = tt
leftover-whole P all (track n a [] ∷ ts) e = (tt, leftover-whole P all ts e)
leftover-whole P all (track n a (s ∷ l) ∷ ts) e = absurd (not-passes _ e)

leftover-order : (all : List Span) (ts : List Track) → leftover all ts ≡ passes → NeighboursIn Earlier ts
leftover-order all [] e = tt
leftover-order all (track n a [] ∷ ts) e = (tt, leftover-order all ts e)
leftover-order all (track n a (s ∷ l) ∷ ts) e = absurd (not-passes _ e)

-- at a payload's end
covered-skip : (c : Span) (m : List Span) (ts : List Track) → c.from ≡ c.to → Covered m ts → Covered (c ∷ m) ts
covered-skip c m ts e h = record {
  once = λ b w. ⊎_elim (λ (u : (c.from ≤ b) × (b < c.to)). absurd (omega arith)) (λ u. h.once b u) w;
  whole = alls-map (Good m) (Good (c ∷ m)) (λ s g. (g.0, inr g.1)) ts h.whole;
  order = h.order;
}

-- one sample starts at p, and fits
module _ (c : Span) (m : List Span) (ts : List Track) (x : Claim) (o : InOrder (c ∷ m)) (he : heads c.from ts ≡ x ∷ [])
    (fits : c.from + x.sample.size ≤ c.to) where
  pub starts-at : x.sample.offset ≡ c.from
  starts-at = (subst (AllOf (λ u. u.offset ≡ c.from)) he (heads-at c.from ts)).0

  pub sum_one : (f : Sample → ℕ) → sum_all f ts ≡ sum_all f (advance c.from ts) + f x.sample
  sum_one f =
      let e = sum-advance f c.from ts in
      let k : sum_of f (heads c.from ts) ≡ f x.sample + 0 = ap (sum_of f) he in
      omega arith

  pub order-rest : InOrder (rest c x.sample.size ∷ m)
  order-rest = (fits, o.1, o.2)

  module _ (filled : 0 < x.sample.size) (h : Covered (rest c x.sample.size ∷ m) (advance c.from ts)) where
    later : AllIn (λ u. c.from + x.sample.size ≤ u.offset) (advance c.from ts)
    later =
        alls-map (Good (rest c x.sample.size ∷ m)) (λ u. c.from + x.sample.size ≤ u.offset)
        (λ u g. within-from (c.from + x.sample.size) u (rest c x.sample.size ∷ m) (omega arith) order-rest g.1)
        (advance c.from ts) h.whole

    good : AllOf (Good (c ∷ m)) (heads c.from ts)
    good = rw he ((filled, inl (omega (arith, starts-at), omega (arith, starts-at))), tt)

    wider : (u : Sample) → Good (rest c x.sample.size ∷ m) u → Good (c ∷ m) u
    wider u g =
        (g.0, ⊎_elim (λ (w : (c.from + x.sample.size ≤ u.offset) × (u.offset + u.size ≤ c.to)). inl (omega arith, omega arith)) (λ w. inr w) g.1)

    once_more : (b : ℕ) → InSome b (c ∷ m) → count b ts ≡ 1
    once_more b (inl w) = cases (ltb b (c.from + x.sample.size)) refl
      where
        cases : (y : Bool) → ltb b (c.from + x.sample.size) ≡ y → count b ts ≡ 1
        cases true e =
            let l = ltb-true b (c.from + x.sample.size) e in
            omega (
              arith,
              sum_one (holds b),
              holds-in b x.sample (omega (arith, starts-at)) (omega (arith, starts-at, l)),
              count-later (c.from + x.sample.size) b (advance c.from ts) l later,
            )
        cases false e =
            let l = ltb-false b (c.from + x.sample.size) e in
            omega (arith, sum_one (holds b), holds-above b x.sample (omega (arith, starts-at, l)), h.once b (inl (l, w.1)))
    once_more b (inr w) =
        omega (
          arith,
          sum_one (holds b),
          holds-above b x.sample (omega (arith, starts-at, some-from c.to b m o.1 o.2 w)),
          h.once b (inr w),
        )

    covered-take : Covered (c ∷ m) ts
    covered-take = record {
      once = once_more;
      whole = all_back (Good (c ∷ m)) c.from ts
          (alls-map (Good (rest c x.sample.size ∷ m)) (Good (c ∷ m)) wider (advance c.from ts) h.whole) good;
      order = order-back c.from (c.from + x.sample.size) ts h.order later (rw he (omega (arith, starts-at), tt));
    }

-- every step
module _ (all : List Span) (k : List Span → List Track → Answer)
    (ih : (m : List Span) (ts : List Track) → InOrder m → NonEmpty ts → k m ts ≡ passes → Covered m ts) where
  take-sound : (c : Span) (m : List Span) (ts : List Track) → InOrder (c ∷ m) → NonEmpty ts → (bs hs : List Claim) → heads c.from ts ≡ hs
      → cont k (take all c m ts bs hs) ≡ passes → Covered (c ∷ m) ts
  unfolding when
  take-sound c m ts o ne (x ∷ bs) hs he e = absurd (not-passes _ e)
  take-sound c m ts o ne [] [] he e = absurd (not-passes _ e)
  take-sound c m ts o ne [] (x ∷ y ∷ hs) he e = absurd (not-passes _ e)
  take-sound c m ts o ne [] (x ∷ []) he e = cases (leb (c.from + x.sample.size) c.to) refl e
    where
      cases : (y : Bool) → leb (c.from + x.sample.size) c.to ≡ y
          → cont k (when y (go (rest c x.sample.size ∷ m) (advance c.from ts)) (stop (found (F4 x)))) ≡ passes → Covered (c ∷ m) ts
      cases true t e =
          let fits = leb-true (c.from + x.sample.size) c.to t in
          let left = all-forth (λ u. 0 < u.size) c.from ts ne in
          let filled : AllOf (λ u. 0 < u.size) (x ∷ []) = subst (AllOf (λ u. 0 < u.size)) he left.1 in
          covered-take c m ts x o he fits filled.0 (ih (rest c x.sample.size ∷ m) (advance c.from ts) (fits, o.1, o.2) left.0 e)
      cases false t e = absurd (not-passes _ e)

  step-sound : (m : List Span) (ts : List Track) → InOrder m → NonEmpty ts → cont k (step all m ts) ≡ passes → Covered m ts
  unfolding when
  step-sound [] ts o ne e = record {
    once = λ b w. absurd w;
    whole = leftover-whole (Good []) all ts e;
    order = leftover-order all ts e;
  }
  step-sound (c ∷ m) ts o ne e = cases (eqb c.from c.to) refl e
    where
      cases : (x : Bool) → eqb c.from c.to ≡ x
          → cont k (when x (go m ts) (take all c m ts (below c.from ts) (heads c.from ts))) ≡ passes → Covered (c ∷ m) ts
      cases true t e = covered-skip c m ts (eqb-true c.from c.to t) (ih m ts o.2 ne e)
      cases false t e = take-sound c m ts o ne (below c.from ts) (heads c.from ts) refl e

run_sound : (n : ℕ) (all m : List Span) (ts : List Track) → InOrder m → NonEmpty ts → run n all m ts ≡ passes → Covered m ts
run_sound zero all m ts o ne e = absurd (not-passes _ e)
run_sound (suc n) all m ts o ne e = step-sound all (run n all) (run_sound n all) m ts o ne e

pub sweep_sound : (m : List Span) (ts : List Track) → InOrder m → NonEmpty ts → sweep m ts ≡ passes → Covered m ts
unfolding sweep_from
sweep_sound m ts o ne e = run_sound (suc (length m + total ts)) m m ts o ne e
