-- The sweep with no count of steps in sight: it goes where a step goes and stops where a step stops. Assumes nothing.
use Prim.Native.Nat.{ℕ, zero, suc, ◌+◌, ◌<◌}
use mathlib.Core.Path.{◌≡◌, refl, ◌∙◌, ap, subst}
use mathlib.Core.List.{List, [], ◌∷◌}
use mathlib.Core.Bool.{Bool, true, false}
use native.Mathlib.Omega.{arith}
use lib.ListN.{length}
use lib.Dec.{leb, eqb}
use Rattle.numbers.specs.Field.{when}
use Rattle.verdicts.specs.Findings.{Track, Claim, Span, F4, Answer, found}
use Rattle.verdicts.specs.Sweep.{below, heads, advance, Step, stop, go, rest, take, step, cont, run, total, sweep_from, sweep}
use Rattle.verdicts.proofs.Laws.{sum_of, sum-advance}

-- payloads and samples that are left
abbrev pub left : List Span → List Track → ℕ
left m ts = length m + total ts

-- what a step goes on to is less
abbrev Less : ℕ → Step → Type 0
Less k (stop a) = Unit {0}
Less k (go m ts) = left m ts < k

take_less : (all : List Span) (c : Span) (m : List Span) (ts : List Track) (bs hs : List Claim) → heads c.from ts ≡ hs
    → Less (left (c ∷ m) ts) (take all c m ts bs hs)
unfolding when
take_less all c m ts (x ∷ bs) hs e = tt
take_less all c m ts [] [] e = tt
take_less all c m ts [] (x ∷ y ∷ hs) e = tt
take_less all c m ts [] (x ∷ []) e = cases (leb (c.from + x.sample.size) c.to)
  where
    cases : (y : Bool) → Less (left (c ∷ m) ts) (when y (go (rest c x.sample.size ∷ m) (advance c.from ts)) (stop (found (F4 x))))
    cases true = let k : sum_of (λ s. 1) (heads c.from ts) ≡ 1 = ap (sum_of (λ s. 1)) e in omega (arith, sum-advance (λ s. 1) c.from ts)
    cases false = tt

step_less : (all m : List Span) (ts : List Track) → Less (left m ts) (step all m ts)
unfolding when
step_less all [] ts = tt
step_less all (c ∷ m) ts = cases (eqb c.from c.to)
  where
    cases : (x : Bool) → Less (left (c ∷ m) ts) (when x (go m ts) (take all c m ts (below c.from ts) (heads c.from ts)))
    cases true = omega arith
    cases false = take_less all c m ts (below c.from ts) (heads c.from ts) refl

run_more : (n k : ℕ) (all m : List Span) (ts : List Track) → left m ts < n → left m ts < k → run n all m ts ≡ run k all m ts
run_more zero k all m ts h g = absurd (omega arith)
run_more (suc n) zero all m ts h g = absurd (omega arith)
run_more (suc n) (suc k) all m ts h g = cases (run_more n k all) (step all m ts) (step_less all m ts)
  where
    cases : ((m' : List Span) (ts' : List Track) → left m' ts' < n → left m' ts' < k → run n all m' ts' ≡ run k all m' ts') → (st : Step) → Less (left m ts) st
        → cont (λ m' ts'. run n all m' ts') st ≡ cont (λ m' ts'. run k all m' ts') st
    cases ih (stop a) l = refl
    cases ih (go m' ts') l = ih m' ts' (omega arith) (omega arith)

pub sweep-step : (all m : List Span) (ts : List Track) → sweep_from all m ts ≡ cont (sweep_from all) (step all m ts)
unfolding sweep_from
sweep-step all m ts = cases (step all m ts) (step_less all m ts)
  where
    cases : (st : Step) → Less (left m ts) st → cont (λ m' ts'. run (left m ts) all m' ts') st ≡ cont (λ m' ts'. run (suc (left m' ts')) all m' ts') st
    cases (stop a) l = refl
    cases (go m' ts') l = run_more (left m ts) (suc (left m' ts')) all m' ts' l (omega arith)

module _ (all m : List Span) (ts : List Track) where
  pub sweep-stops : (a : Answer) → step all m ts ≡ stop a → sweep_from all m ts ≡ a
  sweep-stops a e = sweep-step all m ts ∙ ap (cont (sweep_from all)) e

  module _ (m' : List Span) (ts' : List Track) where
    pub sweep-goes : step all m ts ≡ go m' ts' → sweep_from all m ts ≡ sweep_from all m' ts'
    sweep-goes e = sweep-step all m ts ∙ ap (cont (sweep_from all)) e

    -- the measure of a loop
    pub less-goes : step all m ts ≡ go m' ts' → left m' ts' < left m ts
    less-goes e = subst (Less (left m ts)) e (step_less all m ts)

-- k steps that all go on
abbrev pub GoesIn : ℕ → List Span → List Span → List Track → List Span → List Track → Type 0
GoesIn zero all m ts m' ts' = (m ≡ m') × (ts ≡ ts')
GoesIn (suc k) all m ts m' ts' = (m₁ : List Span) × (ts₁ : List Track) × (step all m ts ≡ go m₁ ts₁) × GoesIn k all m₁ ts₁ m' ts'

abbrev pub Ends : List Span → List Span → List Track → Answer → Type 0
Ends all m ts a = (k : ℕ) × (m' : List Span) × (ts' : List Track) × GoesIn k all m ts m' ts' × (step all m' ts' ≡ stop a)

run_ends : (n : ℕ) (all m : List Span) (ts : List Track) → left m ts < n → Ends all m ts (run n all m ts)
run_ends zero all m ts h = absurd (omega arith)
run_ends (suc n) all m ts h = cases (run_ends n all) (step all m ts) refl (step_less all m ts)
  where
    cases : ((m' : List Span) (ts' : List Track) → left m' ts' < n → Ends all m' ts' (run n all m' ts')) → (st : Step) → step all m ts ≡ st → Less (left m ts) st
        → Ends all m ts (cont (λ m' ts'. run n all m' ts') st)
    cases ih (stop a) e l = (zero, m, ts, (refl, refl), e)
    cases ih (go m₁ ts₁) e l =
        let (k, m', ts', g, s) = ih m₁ ts₁ (omega arith) in
        (suc k, m', ts', (m₁, ts₁, e, g), s)

-- what the sweep answers is what the first step that stops answers
pub sweep-ends : (m : List Span) (ts : List Track) → Ends m m ts (sweep m ts)
unfolding sweep_from
sweep-ends m ts = run_ends (suc (left m ts)) m m ts (omega arith)
