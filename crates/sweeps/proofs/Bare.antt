-- The sweep looks at the number, the place and the size of a sample, and at nothing else: tracks whose samples agree in
-- these have one answer. So it may have a track's places instead of its samples. Assumes nothing.
use Prim.Native.Nat.{ℕ, zero, suc, ◌+◌, ◌^◌, ◌≤◌}
use mathlib.Core.Path.{◌≡◌, refl, sym, ap, ap₂, ◌∙◌}
use mathlib.Core.List.{List, [], ◌∷◌, map}
use mathlib.Core.Bool.{Bool, true, false, ◌&&◌}
use native.Mathlib.Omega.{arith}
use lib.ListN.{length}
use lib.Dec.{ltb, leb, eqb}
use Rattle.numbers.specs.Field.{when}
use Rattle.samples.specs.declared.Sample.{Sample}
use Rattle.samples.specs.Lists.{held, all_held}
use Rattle.tables.specs.declared.Track as tables
use Rattle.tables.specs.Tables.{values_of, pairs, groups, chunks, sizes, shifts, syncs}
use Rattle.tables.specs.Samples.{place, samples_of}
use Rattle.lanes.specs.Site.{bare, sites_of}
use Rattle.lanes.proofs.Sites.{sites-zipped}
use Rattle.verdicts.specs.Findings.{Track, track, Claim, claim, Span, Answer, passes, found, F4, F5, F6}
use Rattle.verdicts.specs.Sweep.{in_some, misplaced, below, heads, advance, leftover, Step, stop, go, rest, take, step, cont, run, sum_in, sum_all, total, sweep_from, sweep}
use Rattle.sweeps.specs.Tracks.{fitting}
use Rattle.sweeps.proofs.Laws.{fitting-all}

abbrev pub bare_of : Track → Track
bare_of (track n a l) = track n a (map bare l)

abbrev bare_claim : Claim → Claim
bare_claim x = claim x.track (bare x.sample)

-- WHAT IS ASKED OF THE NEXT SAMPLES

abbrev more : Bool → Claim → List Claim → List Claim
more b x xs = when b (x ∷ xs) xs

more-bare : (b : Bool) (x : Claim) (xs : List Claim) → more b (bare_claim x) (map bare_claim xs) ≡ map bare_claim (more b x xs)
unfolding when
more-bare true x xs = refl
more-bare false x xs = refl

below-bare : (p : ℕ) (ts : List Track) → below p (map bare_of ts) ≡ map bare_claim (below p ts)
below-bare p [] = refl
below-bare p (track n a [] ∷ ts) = below-bare p ts
below-bare p (track n a (s ∷ l) ∷ ts) =
    ap (λ (xs : List Claim). more (ltb s.offset p) (claim n (bare s)) xs) (below-bare p ts) ∙ more-bare (ltb s.offset p) (claim n s) (below p ts)

heads-bare : (p : ℕ) (ts : List Track) → heads p (map bare_of ts) ≡ map bare_claim (heads p ts)
heads-bare p [] = refl
heads-bare p (track n a [] ∷ ts) = heads-bare p ts
heads-bare p (track n a (s ∷ l) ∷ ts) =
    ap (λ (xs : List Claim). more (eqb s.offset p) (claim n (bare s)) xs) (heads-bare p ts) ∙ more-bare (eqb s.offset p) (claim n s) (heads p ts)

without : (b : Bool) (s : Sample) (l : List Sample) → when b (map bare l) (bare s ∷ map bare l) ≡ map bare (when b l (s ∷ l))
unfolding when
without true s l = refl
without false s l = refl

advance-bare : (p : ℕ) (ts : List Track) → advance p (map bare_of ts) ≡ map bare_of (advance p ts)
advance-bare p [] = refl
advance-bare p (track n a [] ∷ ts) = ap (λ (us : List Track). track n a [] ∷ us) (advance-bare p ts)
advance-bare p (track n a (s ∷ l) ∷ ts) =
    ap₂ (λ (k : List Sample) (us : List Track). track n a k ∷ us) (without (eqb s.offset p) s l) (advance-bare p ts)

leftover-bare : (all : List Span) (ts : List Track) → leftover all (map bare_of ts) ≡ leftover all ts
leftover-bare all [] = refl
leftover-bare all (track n a [] ∷ ts) = leftover-bare all ts
leftover-bare all (track n a (s ∷ l) ∷ ts) = refl

-- A STEP

abbrev bare_step : Step → Step
bare_step (stop a) = stop a
bare_step (go m ts) = go m (map bare_of ts)

one-taken : (b : Bool) (m : List Span) (ts us : List Track) (x : Answer) → us ≡ map bare_of ts → when b (go m us) (stop x) ≡ bare_step (when b (go m ts) (stop x))
unfolding when
one-taken true m ts us x e = ap (go m) e
one-taken false m ts us x e = refl

take_bare : (all : List Span) (c : Span) (m : List Span) (ts : List Track) (xs hs : List Claim)
    → take all c m (map bare_of ts) (map bare_claim xs) (map bare_claim hs) ≡ bare_step (take all c m ts xs hs)
take_bare all c m ts (x ∷ xs) hs = refl
take_bare all c m ts [] (x ∷ y ∷ hs) = refl
take_bare all c m ts [] (x ∷ []) =
    one-taken (leb (c.from + x.sample.size) c.to) (rest c x.sample.size ∷ m) (advance c.from ts) (advance c.from (map bare_of ts)) (found (F4 x))
    (advance-bare c.from ts)
take_bare all c m ts [] [] = refl

or-skipped : (b : Bool) (m : List Span) (ts : List Track) (x y : Step) → x ≡ bare_step y → when b (go m (map bare_of ts)) x ≡ bare_step (when b (go m ts) y)
unfolding when
or-skipped true m ts x y e = refl
or-skipped false m ts x y e = e

step-bare : (all m : List Span) (ts : List Track) → step all m (map bare_of ts) ≡ bare_step (step all m ts)
step-bare all [] ts = ap stop (leftover-bare all ts)
step-bare all (c ∷ m) ts =
    or-skipped (eqb c.from c.to) m ts (take all c m (map bare_of ts) (below c.from (map bare_of ts)) (heads c.from (map bare_of ts)))
    (take all c m ts (below c.from ts) (heads c.from ts))
    (ap₂ (λ (xs hs : List Claim). take all c m (map bare_of ts) xs hs) (below-bare c.from ts) (heads-bare c.from ts)
    ∙ take_bare all c m ts (below c.from ts) (heads c.from ts))

-- THE SWEEP

run-bare : (n : ℕ) (all m : List Span) (ts : List Track) → run n all m (map bare_of ts) ≡ run n all m ts
run-bare zero all m ts = refl
run-bare (suc n) all m ts = ap (cont (λ m' ts'. run n all m' ts')) (step-bare all m ts) ∙ cases (step all m ts) (λ m' ts'. run-bare n all m' ts')
  where
    cases : (x : Step) → ((m' : List Span) (ts' : List Track) → run n all m' (map bare_of ts') ≡ run n all m' ts')
        → cont (λ m' ts'. run n all m' ts') (bare_step x) ≡ cont (λ m' ts'. run n all m' ts') x
    cases (stop a) ih = refl
    cases (go m' ts') ih = ih m' ts'

count-bare : (l : List Sample) → sum_in (λ s. 1) (map bare l) ≡ sum_in (λ s. 1) l
count-bare [] = refl
count-bare (s ∷ l) = ap (λ (k : ℕ). 1 + k) (count-bare l)

total-bare : (ts : List Track) → total (map bare_of ts) ≡ total ts
total-bare [] = refl
total-bare (track n a l ∷ ts) = ap₂ (λ (j k : ℕ). j + k) (count-bare l) (total-bare ts)

pub sweep-bare : (m : List Span) (ts : List Track) → sweep m (map bare_of ts) ≡ sweep m ts
unfolding sweep_from
sweep-bare m ts =
    ap (λ (k : ℕ). run (suc (length m + k)) m m (map bare_of ts)) (total-bare ts) ∙ run-bare (suc (length m + total ts)) m m ts

pub sweep-alike : (m : List Span) (ts us : List Track) → map bare_of ts ≡ map bare_of us → sweep m ts ≡ sweep m us
sweep-alike m ts us e = sym (sweep-bare m ts) ∙ ap (sweep m) e ∙ sweep-bare m us

-- A TRACK'S PLACES

bare_twice : (l : List Sample) → map bare (map bare l) ≡ map bare l
bare_twice [] = refl
bare_twice (s ∷ l) = ap (λ (k : List Sample). bare s ∷ k) (bare_twice l)

-- a sample fits no less without its times
all-held : (l : List Sample) → all_held l ≡ true → all_held (map bare l) ≡ true
all-held [] e = refl
all-held (s ∷ l) e = cases (ltb s.number (2 ^ 32)) (ltb (s.offset + s.size) (2 ^ 64)) (ltb s.time (2 ^ 63)) e (all-held l)
  where
    cases : (x y z : Bool) → (x && (y && z)) && all_held l ≡ true → (all_held l ≡ true → all_held (map bare l) ≡ true) → (x && (y && true)) && all_held (map bare l) ≡ true
    cases true true true e ih = ih e
    cases true true false e ih = let z : ◌≡◌ {A = ℕ} 0 1 = cc in absurd (omega arith)
    cases true false z e ih = let z : ◌≡◌ {A = ℕ} 0 1 = cc in absurd (omega arith)
    cases false y z e ih = let z : ◌≡◌ {A = ℕ} 0 1 = cc in absurd (omega arith)

-- where there is a duration for each size and every sample fits, the places are those of the samples
pub sites-are : (f : List ℕ) (t : tables.Track) → length (sizes f t.stsz) ≤ length (values_of (pairs f t.stts)) → all_held (samples_of f t) ≡ true
    → map bare (fitting (sites_of f t)) ≡ map bare (samples_of f t)
sites-are f t h e =
    let q : map bare (samples_of f t) ≡ sites_of f t = sites-zipped 0 0 (sizes f t.stsz) (values_of (pairs f t.stts)) (place (values_of (groups f t.stsc t.stco.count)) (chunks f t.stco) (sizes f t.stsz)) (shifts f t.ctts) (syncs f t.stss) h in
    ap (λ (l : List Sample). map bare (fitting l)) (sym q)
    ∙ ap (map bare) (fitting-all (map bare (samples_of f t)) (all-held (samples_of f t) e))
    ∙ bare_twice (samples_of f t)
