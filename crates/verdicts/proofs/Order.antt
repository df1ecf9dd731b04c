-- A finding is the first in 01's order: every question before it passes. Assumes nothing.
use Prim.Native.Nat.{ℕ, zero, suc, ◌+◌, ◌≤◌, ◌<◌}
use mathlib.Core.Path.{◌≡◌, refl, ◌∙◌, ap, subst}
use mathlib.Core.List.{List, [], ◌∷◌, ◌++◌}
use mathlib.Core.Bool.{Bool, true, false}
use native.Mathlib.Omega.{arith}
use lib.ListN.{length}
use lib.Dec.{leb, eqb}
use Rattle.numbers.specs.Field.{when}
use Rattle.samples.specs.declared.Sample.{Sample}
use Rattle.verdicts.specs.Findings.{Track, track, Claim, claim, Span, F1, F2, F3, F4, F5, F7, F8, Answer, passes, found, first_found}
use Rattle.verdicts.specs.declared.Finding.{Finding}
use Rattle.verdicts.specs.Sweep.{in_some, misplaced, below, heads, advance, leftover, stop, go, rest, take, step, cont, run, total, sweep_from, sweep}
use Rattle.verdicts.specs.Fragments.{Traf, Moof, Due, free, due, fits, gap_of, next_number, next_time, Clock, clocks_of, own_trafs, timed, timed_all, clocks_after, follow_from, follow}
use Rattle.verdicts.specs.Audit.{agreements, sized, lasting, passed_in, passed, questions, verdict, audit_of}
use Rattle.verdicts.specs.Meaning.{All, NeighboursIn, Lasts, Agrees, InOrder, Covered}
use Rattle.verdicts.specs.declared.Verdict.{Verdict}
use Rattle.verdicts.specs.declared.Verdict.TheVariants.{Clean, Found}
use Rattle.verdicts.proofs.Laws.{all_join}
use Rattle.verdicts.proofs.Sound.{NonEmpty, sweep_sound}
use Rattle.verdicts.proofs.Steps.{Ends, sweep-ends}
use Rattle.verdicts.proofs.Swept.{Swept, goes-swept}
use Rattle.verdicts.proofs.Passing.{Passing, agree-sound, pass-sound}

-- the first that is found stands behind questions that pass

abbrev pub FirstIn : List Answer → Finding → Type 0
FirstIn l f = (earlier : List Answer) × (after : List Answer) × (l ≡ earlier ++ (found f ∷ after)) × All Passing earlier

first-found : (l : List Answer) (f : Finding) → first_found l ≡ found f → FirstIn l f
first-found [] f e = let z : ◌≡◌ {A = ℕ} 0 1 = cc in absurd (omega arith)
first-found (passes ∷ l) f e =
    let (earlier, after, q, h) = first-found l f e in
    (passes ∷ earlier, after, ap (λ (k : List Answer). passes ∷ k) q, (refl, h))
first-found (found g ∷ l) f e = ([], l, ap (λ (a : Answer). a ∷ l) e, tt)

module _ (ts : List Track) (m : List Span) where
  of-verdict : (x : Answer) (f : Finding) → verdict ts m x ≡ Found f → x ≡ found f
  of-verdict passes f e = let z : ◌≡◌ {A = ℕ} 0 1 = cc in absurd (omega arith)
  of-verdict (found g) f e = ap told e
    where
      told : Verdict → Answer
      told (Clean a b c) = passes
      told (Found h) = found h

pub audit-first : (ts : List Track) (m : List Span) (fs : List Moof) (f : Finding) → audit_of ts m fs ≡ Found f → FirstIn (questions ts m fs) f
unfolding audit_of
audit-first ts m fs f e = first-found (questions ts m fs) f (of-verdict ts m (first_found (questions ts m fs)) f e)

-- BY PARTS, for what asks them one after the other

abbrev pub or_else : Answer → Answer → Answer
or_else passes a = a
or_else (found f) a = found f

pub first-join : (l r : List Answer) → first_found (l ++ r) ≡ or_else (first_found l) (first_found r)
first-join [] r = refl
first-join (passes ∷ l) r = first-join l r
first-join (found f ∷ l) r = refl

first_one : (a : Answer) (l : List Answer) → first_found (a ∷ l) ≡ or_else a (first_found l)
first_one passes l = refl
first_one (found f) l = refl

pub audit-parts : (ts : List Track) (m : List Span) (fs : List Moof)
    → audit_of ts m fs ≡ verdict ts m (or_else (first_found (agreements ts)) (or_else (first_found (passed ts)) (or_else (sweep m ts) (first_found (follow ts fs)))))
unfolding audit_of questions
audit-parts ts m fs =
    ap (verdict ts m)
    (first-join (agreements ts) (passed ts ++ (sweep m ts ∷ follow ts fs))
    ∙ ap (or_else (first_found (agreements ts)))
    (first-join (passed ts) (sweep m ts ∷ follow ts fs) ∙ ap (or_else (first_found (passed ts))) (first_one (sweep m ts) (follow ts fs))))

-- BY KIND: what number the finding of a question has

abbrev number_in : Answer → ℕ
number_in passes = 0
number_in (found f) = f.number

abbrev UpTo : ℕ → Answer → Type 0
UpTo k passes = Unit {0}
UpTo k (found f) = f.number ≤ k

abbrev From : ℕ → Answer → Type 0
From k passes = Unit {0}
From k (found f) = k ≤ f.number

either : (P : Answer → Type 0) (b : Bool) (x y : Answer) → P x → P y → P (when b x y)
unfolding when
either P true x y h g = h
either P false x y h g = g

agreements-kind : (ts : List Track) → All (UpTo 1) (agreements ts)
agreements-kind [] = tt
agreements-kind (track n a l ∷ ts) = (either (UpTo 1) a passes (found (F1 n)) tt (omega arith), agreements-kind ts)

sized-kind : (x : Claim) → UpTo 3 (sized x)
sized-kind x = either (UpTo 3) (eqb x.sample.size 0) (found (F2 x)) passes (omega arith) tt

lasting-kind : (x : Claim) → UpTo 3 (lasting x)
lasting-kind x = either (UpTo 3) (eqb x.sample.duration 0) (found (F3 x)) passes (omega arith) tt

in-kind : (n : ℕ) (l : List Sample) → All (UpTo 3) (passed_in n l)
in-kind n [] = tt
in-kind n (s ∷ []) = (sized-kind (claim n s), tt)
in-kind n (s ∷ u ∷ l) = (sized-kind (claim n s), (lasting-kind (claim n s), in-kind n (u ∷ l)))

passed-kind : (ts : List Track) → All (UpTo 3) (passed ts)
passed-kind [] = tt
passed-kind (track n a l ∷ ts) = all_join (UpTo 3) (passed_in n l) (passed ts) (in-kind n l) (passed-kind ts)

misplaced-kind : (all : List Span) (x : Claim) → UpTo 6 (misplaced all x)
unfolding when
misplaced-kind all x = cases (in_some x.sample.offset all)
  where
    cases : (b : Bool) → UpTo 6 (found (when b (F5 x) (F4 x)))
    cases true = omega arith
    cases false = omega arith

leftover-kind : (all : List Span) (ts : List Track) → UpTo 6 (leftover all ts)
leftover-kind all [] = tt
leftover-kind all (track n a [] ∷ ts) = leftover-kind all ts
leftover-kind all (track n a (s ∷ l) ∷ ts) = misplaced-kind all (claim n s)

module _ (all : List Span) (k : List Span → List Track → Answer) (ih : (m : List Span) (ts : List Track) → UpTo 6 (k m ts)) where
  take-kind : (c : Span) (m : List Span) (ts : List Track) (bs hs : List Claim) → UpTo 6 (cont k (take all c m ts bs hs))
  unfolding when
  take-kind c m ts (x ∷ bs) hs = misplaced-kind all x
  take-kind c m ts [] [] = omega arith
  take-kind c m ts [] (x ∷ y ∷ hs) = omega arith
  take-kind c m ts [] (x ∷ []) = cases (leb (c.from + x.sample.size) c.to)
    where
      cases : (b : Bool) → UpTo 6 (cont k (when b (go (rest c x.sample.size ∷ m) (advance c.from ts)) (stop (found (F4 x)))))
      cases true = ih (rest c x.sample.size ∷ m) (advance c.from ts)
      cases false = omega arith

  step-kind : (m : List Span) (ts : List Track) → UpTo 6 (cont k (step all m ts))
  unfolding when
  step-kind [] ts = leftover-kind all ts
  step-kind (c ∷ m) ts = cases (eqb c.from c.to)
    where
      cases : (b : Bool) → UpTo 6 (cont k (when b (go m ts) (take all c m ts (below c.from ts) (heads c.from ts))))
      cases true = ih m ts
      cases false = take-kind c m ts (below c.from ts) (heads c.from ts)

run-kind : (n : ℕ) (all m : List Span) (ts : List Track) → UpTo 6 (run n all m ts)
run-kind zero all m ts = omega arith
run-kind (suc n) all m ts = step-kind all (run n all) (run-kind n all) m ts

sweep-kind : (m : List Span) (ts : List Track) → UpTo 6 (sweep m ts)
unfolding sweep_from
sweep-kind m ts = run-kind (suc (length m + total ts)) m m ts

timed-kind : (at t : ℕ) (d : Due) (l : List Traf) → All (From 7) (timed at t d l)
timed-kind at t d [] = tt
timed-kind at t d (x ∷ l) =
    (either (From 7) (fits d x.tfdt) passes (found (F8 t at (gap_of d x.tfdt))) tt (omega arith), timed-kind at t (due (next_time x)) l)

timed-all-kind : (m : Moof) (cs : List Clock) → All (From 7) (timed_all m cs)
timed-all-kind m [] = tt
timed-all-kind m (c ∷ cs) =
    all_join (From 7) (timed m.start c.track c.next (own_trafs c.track m.trafs)) (timed_all m cs)
    (timed-kind m.start c.track c.next (own_trafs c.track m.trafs)) (timed-all-kind m cs)

follow-kind : (d : Due) (cs : List Clock) (ms : List Moof) → All (From 7) (follow_from d cs ms)
follow-kind d cs [] = tt
follow-kind d cs (m ∷ ms) = (
  either (From 7) (fits d m.number) passes (found (F7 m.start)) tt (omega arith),
  all_join (From 7) (timed_all m cs) (follow_from (due (next_number m.number)) (clocks_after m cs) ms) (timed-all-kind m cs)
      (follow-kind (due (next_number m.number)) (clocks_after m cs) ms),
)

not-among : (k : ℕ) (l : List Answer) (f : Finding) → All (From k) l → f.number < k → first_found l ≡ found f → ⊥
not-among k [] f h g e = let z : ◌≡◌ {A = ℕ} 0 1 = cc in omega arith
not-among k (passes ∷ l) f h g e = not-among k l f h.1 g e
not-among k (found q ∷ l) f h g e = omega (arith, h.0, ap number_in e)

-- a finding of a later kind is not among these, and they all pass
beyond : (k : ℕ) (l r : List Answer) (f : Finding) → All (UpTo k) l → k < f.number → first_found (l ++ r) ≡ found f
    → All Passing l × (first_found r ≡ found f)
beyond k [] r f h g e = (tt, e)
beyond k (passes ∷ l) r f h g e = let i = beyond k l r f h.1 g e in ((refl, i.0), i.1)
beyond k (found q ∷ l) r f h g e = absurd (omega (arith, h.0, ap number_in e))

module _ (ts : List Track) (m : List Span) (fs : List Moof) (f : Finding) (e : audit_of ts m fs ≡ Found f) where
  first : first_found (questions ts m fs) ≡ found f
  unfolding audit_of
  first = of-verdict ts m (first_found (questions ts m fs)) f e

  after-agreements : 1 < f.number → All Passing (agreements ts) × (first_found (passed ts ++ (sweep m ts ∷ follow ts fs)) ≡ found f)
  unfolding questions
  after-agreements h = beyond 1 (agreements ts) (passed ts ++ (sweep m ts ∷ follow ts fs)) f (agreements-kind ts) h first

  after-pass : 3 < f.number → All Passing (passed ts) × (first_found (sweep m ts ∷ follow ts fs) ≡ found f)
  after-pass h = beyond 3 (passed ts) (sweep m ts ∷ follow ts fs) f (passed-kind ts) h (after-agreements (omega arith)).1

  after-sweep : 6 < f.number → Passing (sweep m ts)
  after-sweep h = (beyond 6 (sweep m ts ∷ []) (follow ts fs) f (sweep-kind m ts, tt) h (after-pass (omega arith)).1).0.0

  -- F2 or later: F1 passes for every track
  pub then-agree : 1 < f.number → All Agrees ts
  then-agree h = agree-sound ts (after-agreements h).0

  -- F4 or later: no sample is empty, and no duration before a track's last is 0
  pub then-passed : 3 < f.number → NonEmpty ts × NeighboursIn Lasts ts
  then-passed h = pass-sound ts (after-pass h).0

  -- F4 to F6: the finding is where the sweep comes to a stop, at the first step that does not go on
  pub then-stopped : 3 < f.number → f.number < 7 → Ends m m ts (found f)
  then-stopped h g = subst (Ends m m ts) (cases (sweep m ts) (after-pass h).1) (sweep-ends m ts)
    where
      cases : (a : Answer) → first_found (a ∷ follow ts fs) ≡ found f → a ≡ found f
      cases passes q = absurd (not-among 7 (follow ts fs) f (follow-kind free (clocks_of ts) fs) g q)
      cases (found x) q = q

  -- and until then every payload byte behind it was in exactly one sample
  pub then-swept : 3 < f.number → f.number < 7 → InOrder m
      → (m' : List Span) × (ts' : List Track) × Swept m ts m' ts' × (step m m' ts' ≡ stop (found f))
  then-swept h g o =
      let (k, m', ts', s, e) = then-stopped h g in
      (m', ts', goes-swept k m m ts m' ts' o s, e)

  -- F7 or F8: the media data are covered
  pub then-covered : 6 < f.number → InOrder m → Covered m ts
  then-covered h o = sweep_sound m ts o (then-passed (omega arith)).0 (after-sweep h)
