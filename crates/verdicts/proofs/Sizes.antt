-- Where the media data are covered, the samples' sizes add up to the payloads' bytes: each step of the sweep takes as
-- many from both. Assumes nothing.
use Prim.Native.Nat.{ℕ, zero, suc, ◌+◌}
use mathlib.Core.Path.{◌≡◌, refl, ◌∙◌}
use mathlib.Core.List.{List, [], ◌∷◌}
use mathlib.Core.Bool.{Bool, true, false}
use native.Mathlib.Omega.{arith}
use lib.ListN.{length}
use lib.Dec.{leb, eqb}
use borrow.Author.Tests.{leb-true, eqb-true}
use Rattle.numbers.specs.Field.{when}
use Rattle.samples.specs.Lists.{bytes_of}
use Rattle.samples.specs.declared.Sample.{Sample}
use Rattle.verdicts.specs.Findings.{Track, track, Claim, Span, F4, Answer, passes, found}
use Rattle.verdicts.specs.Sweep.{below, heads, advance, leftover, stop, go, rest, take, step, cont, run, sum_in, sum_all, total, bytes, sweep_from}
use Rattle.verdicts.specs.Meaning.{InOrder, Covered, sizes_of}
use Rattle.verdicts.proofs.Sound.{not-passes, sum_one}
use Rattle.verdicts.proofs.Complete.{sweep-complete}

abbrev sizes : List Track → ℕ
sizes ts = sum_all (λ s. s.size) ts

leftover-size : (all : List Span) (ts : List Track) → leftover all ts ≡ passes → sizes ts ≡ 0
leftover-size all [] e = refl
leftover-size all (track n a [] ∷ ts) e = omega (arith, leftover-size all ts e)
leftover-size all (track n a (s ∷ l) ∷ ts) e = absurd (not-passes _ e)

module _ (all : List Span) (k : List Span → List Track → Answer)
    (ih : (m : List Span) (ts : List Track) → InOrder m → k m ts ≡ passes → sizes ts ≡ bytes m) where
  take-size : (c : Span) (m : List Span) (ts : List Track) → InOrder (c ∷ m) → (bs hs : List Claim) → heads c.from ts ≡ hs
      → cont k (take all c m ts bs hs) ≡ passes → sizes ts ≡ bytes (c ∷ m)
  unfolding when
  take-size c m ts o (x ∷ bs) hs he e = absurd (not-passes _ e)
  take-size c m ts o [] [] he e = absurd (not-passes _ e)
  take-size c m ts o [] (x ∷ y ∷ hs) he e = absurd (not-passes _ e)
  take-size c m ts o [] (x ∷ []) he e = cases (leb (c.from + x.sample.size) c.to) refl e
    where
      cases : (y : Bool) → leb (c.from + x.sample.size) c.to ≡ y
          → cont k (when y (go (rest c x.sample.size ∷ m) (advance c.from ts)) (stop (found (F4 x)))) ≡ passes → sizes ts ≡ bytes (c ∷ m)
      cases true t e =
          let fits = leb-true (c.from + x.sample.size) c.to t in
          omega (
            arith,
            sum_one c m ts x o he fits (λ s. s.size),
            ih (rest c x.sample.size ∷ m) (advance c.from ts) (fits, o.1, o.2) e,
          )
      cases false t e = absurd (not-passes _ e)

  step-size : (m : List Span) (ts : List Track) → InOrder m → cont k (step all m ts) ≡ passes → sizes ts ≡ bytes m
  unfolding when
  step-size [] ts o e = leftover-size all ts e
  step-size (c ∷ m) ts o e = cases (eqb c.from c.to) refl e
    where
      cases : (x : Bool) → eqb c.from c.to ≡ x
          → cont k (when x (go m ts) (take all c m ts (below c.from ts) (heads c.from ts))) ≡ passes → sizes ts ≡ bytes (c ∷ m)
      cases true t e = omega (arith, eqb-true c.from c.to t, ih m ts o.2 e)
      cases false t e = take-size c m ts o (below c.from ts) (heads c.from ts) refl e

run-size : (n : ℕ) (all m : List Span) (ts : List Track) → InOrder m → run n all m ts ≡ passes → sizes ts ≡ bytes m
run-size zero all m ts o e = absurd (not-passes _ e)
run-size (suc n) all m ts o e = step-size all (run n all) (run-size n all) m ts o e

one_size : (l : List Sample) → bytes_of l ≡ sum_in (λ s. s.size) l
one_size [] = refl
one_size (s ∷ l) = omega (arith, one_size l)

all-sizes : (ts : List Track) → sizes_of ts ≡ sizes ts
all-sizes [] = refl
all-sizes (track n a l ∷ ts) = omega (arith, one_size l, all-sizes ts)

pub covered-bytes : (m : List Span) (ts : List Track) → InOrder m → Covered m ts → sizes_of ts ≡ bytes m
unfolding sweep_from
covered-bytes m ts o h = all-sizes ts ∙ run-size (suc (length m + total ts)) m m ts o (sweep-complete m ts o h)
