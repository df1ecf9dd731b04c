-- Where the sweep has come to: every payload byte that it has passed is in exactly one of the samples that it has taken,
-- and none of those holds a byte that is still ahead. So a finding of the sweep is the first. Assumes nothing.
use Prim.Native.Nat.{ℕ, zero, suc, ◌+◌, ◌≤◌, ◌<◌}
use mathlib.Core.Path.{◌≡◌, refl, ◌∙◌, subst}
use mathlib.Core.Logic.{◌⊎◌, inl, inr, ⊎_elim}
use mathlib.Core.List.{List, [], ◌∷◌}
use mathlib.Core.Bool.{Bool, true, false}
use native.Mathlib.Omega.{arith}
use lib.Dec.{ltb, leb, eqb}
use borrow.Author.Tests.{ltb-true, ltb-false, leb-true, eqb-true}
use Rattle.numbers.specs.Field.{when}
use Rattle.verdicts.specs.Findings.{Track, Claim, Span, F4, found}
use Rattle.verdicts.specs.Sweep.{below, heads, advance, Step, stop, go, rest, take, step}
use Rattle.verdicts.specs.Meaning.{First, holds, count, InSome, InOrder}
use Rattle.verdicts.proofs.Laws.{holds-in, holds-below, holds-above, some-from}
use Rattle.verdicts.proofs.Sound.{starts-at, sum_one}
use Rattle.verdicts.proofs.Steps.{GoesIn}

-- the payloads that are left begin behind b
abbrev pub Passed : ℕ → List Span → Type 0
Passed b m = First (λ c. b < c.from) m

-- from payloads m and tracks ts to what is left of them
pub record Swept (m : List Span) (ts : List Track) (m' : List Span) (ts' : List Track) : Type 0 where
  pub order : InOrder m'
  pub here : (b : ℕ) → InSome b m → (InSome b m' × (count b ts ≡ count b ts')) ⊎ (Passed b m' × (count b ts ≡ 1 + count b ts'))
  pub gone : (b : ℕ) → Passed b m → Passed b m' × (count b ts ≡ count b ts')

swept_none : (m : List Span) (ts : List Track) → InOrder m → Swept m ts m ts
swept_none m ts o = record { order = o; here = λ b w. inl (w, refl); gone = λ b w. (w, refl) }

module _ (m m₁ m₂ : List Span) (ts ts₁ ts₂ : List Track) where
  swept-more : Swept m ts m₁ ts₁ → Swept m₁ ts₁ m₂ ts₂ → Swept m ts m₂ ts₂
  swept-more p q = record {
    order = q.order;
    here = λ b w. ⊎_elim (ahead b) (behind b) (p.here b w);
    gone = λ b w. let i = p.gone b w in let j = q.gone b i.0 in (j.0, i.1 ∙ j.1);
  }
    where
      ahead : (b : ℕ) → InSome b m₁ × (count b ts ≡ count b ts₁)
          → (InSome b m₂ × (count b ts ≡ count b ts₂)) ⊎ (Passed b m₂ × (count b ts ≡ 1 + count b ts₂))
      ahead b (w, e) =
          ⊎_elim (λ (u : InSome b m₂ × (count b ts₁ ≡ count b ts₂)). inl (u.0, e ∙ u.1))
          (λ (u : Passed b m₂ × (count b ts₁ ≡ 1 + count b ts₂)). inr (u.0, e ∙ u.1)) (q.here b w)

      behind : (b : ℕ) → Passed b m₁ × (count b ts ≡ 1 + count b ts₁)
          → (InSome b m₂ × (count b ts ≡ count b ts₂)) ⊎ (Passed b m₂ × (count b ts ≡ 1 + count b ts₂))
      behind b (w, e) = let i = q.gone b w in inr (i.0, omega (arith, e, i.1))

passed-next : (b : ℕ) (c : Span) (m : List Span) → InOrder (c ∷ m) → b < c.from → Passed b m
passed-next b c [] o h = tt
passed-next b c (d ∷ m) o h = omega (arith, o.0, o.1)

-- at a payload's end
swept-skip : (c : Span) (m : List Span) (ts : List Track) → InOrder (c ∷ m) → c.from ≡ c.to → Swept (c ∷ m) ts m ts
swept-skip c m ts o e = record {
  order = o.2;
  here = λ b w. ⊎_elim (λ (u : (c.from ≤ b) × (b < c.to)). absurd (omega arith)) (λ u. inl (u, refl)) w;
  gone = λ b w. (passed-next b c m o w, refl);
}

-- one sample is taken
module _ (c : Span) (m : List Span) (ts : List Track) (x : Claim) (o : InOrder (c ∷ m)) (he : heads c.from ts ≡ x ∷ [])
    (fits : c.from + x.sample.size ≤ c.to) where
  swept-take : Swept (c ∷ m) ts (rest c x.sample.size ∷ m) (advance c.from ts)
  swept-take = record {
    order = (fits, o.1, o.2);
    here = taken;
    gone = λ b w. (omega arith, omega (arith, one b, holds-below b x.sample (omega (arith, at))));
  }
    where
      at : x.sample.offset ≡ c.from
      at = starts-at c m ts x o he fits

      one : (b : ℕ) → count b ts ≡ count b (advance c.from ts) + holds b x.sample
      one b = sum_one c m ts x o he fits (holds b)

      taken : (b : ℕ) → InSome b (c ∷ m)
          → (InSome b (rest c x.sample.size ∷ m) × (count b ts ≡ count b (advance c.from ts)))
          ⊎ (Passed b (rest c x.sample.size ∷ m) × (count b ts ≡ 1 + count b (advance c.from ts)))
      taken b (inl w) = cases (ltb b (c.from + x.sample.size)) refl
        where
          cases : (y : Bool) → ltb b (c.from + x.sample.size) ≡ y
              → (InSome b (rest c x.sample.size ∷ m) × (count b ts ≡ count b (advance c.from ts)))
              ⊎ (Passed b (rest c x.sample.size ∷ m) × (count b ts ≡ 1 + count b (advance c.from ts)))
          cases true e =
              let l = ltb-true b (c.from + x.sample.size) e in
              inr (l, omega (arith, one b, holds-in b x.sample (omega (arith, at)) (omega (arith, at, l))))
          cases false e =
              let l = ltb-false b (c.from + x.sample.size) e in
              inl (inl (l, w.1), omega (arith, one b, holds-above b x.sample (omega (arith, at, l))))
      taken b (inr w) =
          inl (inr w, omega (arith, one b, holds-above b x.sample (omega (arith, at, some-from c.to b m o.1 o.2 w))))

abbrev SweptBy : List Span → List Track → Step → Type 0
SweptBy m ts (stop a) = Unit {0}
SweptBy m ts (go m' ts') = Swept m ts m' ts'

take-swept : (all : List Span) (c : Span) (m : List Span) (ts : List Track) → InOrder (c ∷ m) → (bs hs : List Claim) → heads c.from ts ≡ hs
    → SweptBy (c ∷ m) ts (take all c m ts bs hs)
unfolding when
take-swept all c m ts o (x ∷ bs) hs he = tt
take-swept all c m ts o [] [] he = tt
take-swept all c m ts o [] (x ∷ y ∷ hs) he = tt
take-swept all c m ts o [] (x ∷ []) he = cases (leb (c.from + x.sample.size) c.to) refl
  where
    cases : (y : Bool) → leb (c.from + x.sample.size) c.to ≡ y
        → SweptBy (c ∷ m) ts (when y (go (rest c x.sample.size ∷ m) (advance c.from ts)) (stop (found (F4 x))))
    cases true t = swept-take c m ts x o he (leb-true (c.from + x.sample.size) c.to t)
    cases false t = tt

step-swept : (all m : List Span) (ts : List Track) → InOrder m → SweptBy m ts (step all m ts)
unfolding when
step-swept all [] ts o = tt
step-swept all (c ∷ m) ts o = cases (eqb c.from c.to) refl
  where
    cases : (x : Bool) → eqb c.from c.to ≡ x
        → SweptBy (c ∷ m) ts (when x (go m ts) (take all c m ts (below c.from ts) (heads c.from ts)))
    cases true t = swept-skip c m ts o (eqb-true c.from c.to t)
    cases false t = take-swept all c m ts o (below c.from ts) (heads c.from ts) refl

pub goes-swept : (k : ℕ) (all m : List Span) (ts : List Track) (m' : List Span) (ts' : List Track) → InOrder m → GoesIn k all m ts m' ts' → Swept m ts m' ts'
goes-swept zero all m ts m' ts' o (e, q) = rw (← e, ← q) (swept_none m ts o)
goes-swept (suc k) all m ts m' ts' o (m₁, ts₁, e, g) =
    let p : Swept m ts m₁ ts₁ = subst (SweptBy m ts) e (step-swept all m ts o) in
    swept-more m m₁ m' ts ts₁ ts' p (goes-swept k all m₁ ts₁ m' ts' p.order g)
