-- What holds of every track's samples and their lookup: a lookup is the list's own entry, whatever comes before it; times
-- are the sums of the durations before, and rise where no duration but the last is 0. Assumes nothing.
use Rattle.std.specs.Prelude.{Ok, Err}
use Prim.Native.Nat.{ℕ, zero, suc, ◌+◌, ◌≤◌, ◌<◌}
use mathlib.Core.Path.{◌≡◌, refl, ap, ◌∙◌}
use mathlib.Core.List.{List, [], ◌∷◌}
use mathlib.Core.Bool.{Bool, true, false}
use native.Mathlib.Omega.{arith}
use lib.ListN.{length, take, drop, drop_of_length-le}
use Rattle.numbers.specs.Field.{when}
use Rattle.numbers.specs.declared.Refusal.TheVariants as refusal
use Rattle.samples.specs.Lists.{held, located, first_of, lookup_of}
use Rattle.samples.specs.declared.Sample.{Sample}
use Rattle.tables.specs.Tables.{values_of, pairs, groups, chunks, sizes, shifts, Syncs, syncs}
use Rattle.tables.specs.Samples.{place, rest, past_of, zipped, samples_of}
use Rattle.tables.specs.declared.Track.{Track}

-- THE LOOKUP IS THE LISTING'S ENTRY

module _ (f : List ℕ) (t : Track) (n : ℕ) where
  pub none-past-the-end : length (samples_of f t) ≤ n → lookup_of (samples_of f t) (suc n) ≡ Err (refusal.NoSample (suc n))
  unfolding lookup_of
  none-past-the-end h = ap (first_of (suc n)) (drop_of_length-le (samples_of f t) h)

  module _ (s : Sample) (l : List Sample) (e : drop n (samples_of f t) ≡ s ∷ l) where
    by-held : (b : Bool) → held s ≡ b → lookup_of (samples_of f t) (suc n) ≡ when b (Ok (located s)) (Err refusal.Overflow)
    unfolding lookup_of
    by-held b h = ap (first_of (suc n)) e ∙ ap (λ (x : Bool). when x (Ok (located s)) (Err refusal.Overflow)) h

    pub lookup-is-the-entry : held s ≡ true → lookup_of (samples_of f t) (suc n) ≡ Ok (located s)
    unfolding when
    lookup-is-the-entry h = by-held true h

    pub lookup-does-not-fit : held s ≡ false → lookup_of (samples_of f t) (suc n) ≡ Err refusal.Overflow
    unfolding when
    lookup-does-not-fit h = by-held false h

-- TIMES

-- the first is at m, and each of the others where the one before it ends
abbrev pub Running : ℕ → List Sample → Type 0
Running m [] = Unit {0}
Running m (s ∷ l) = (s.time ≡ m) × Running (m + s.duration) l

running : (n m : ℕ) (ss ds os cs : List ℕ) (ys : Syncs) → Running m (zipped n m ss ds os cs ys)
running n m [] ds os cs ys = tt
running n m (z ∷ ss) [] os cs ys = tt
running n m (z ∷ ss) (d ∷ ds) [] cs ys = tt
running n m (z ∷ ss) (d ∷ ds) (o ∷ os) cs ys = (refl, running (n + 1) (m + d) ss ds os (rest cs) (past_of ys (n + 1)))

pub times-run : (f : List ℕ) (t : Track) → Running 0 (samples_of f t)
times-run f t =
    running 0 0 (sizes f t.stsz) (values_of (pairs f t.stts))
    (place (values_of (groups f t.stsc t.stco.count)) (chunks f t.stco) (sizes f t.stsz))
    (shifts f t.ctts) (syncs f t.stss)

-- how long these samples last together
abbrev pub lasting : List Sample → ℕ
lasting [] = 0
lasting (s ∷ l) = s.duration + lasting l

time-from : (k m : ℕ) (l : List Sample) (s : Sample) (r : List Sample) → Running m l → drop k l ≡ s ∷ r → s.time ≡ m + lasting (take k l)
time-from zero m [] s r a e = let z : ◌≡◌ {A = ℕ} 0 1 = cc in absurd (omega arith)
time-from zero m (x ∷ l) s r a e = let q : x ≡ s = cc in let p : x.time ≡ s.time = ap (λ (y : Sample). y.time) q in omega (arith, a.0)
time-from (suc k) m [] s r a e = let z : ◌≡◌ {A = ℕ} 0 1 = cc in absurd (omega arith)
time-from (suc k) m (x ∷ l) s r a e = omega (arith, time-from k (m + x.duration) l s r a.1 e)

-- the time of a sample is the sum of the durations before it
pub time-is-the-sum : (f : List ℕ) (t : Track) (k : ℕ) (s : Sample) (r : List Sample) → drop k (samples_of f t) ≡ s ∷ r
    → s.time ≡ lasting (take k (samples_of f t))
time-is-the-sum f t k s r e = omega (arith, time-from k 0 (samples_of f t) s r (times-run f t) e)

-- it holds of every two neighbours
abbrev pub Neighbours : (Sample → Sample → Type 0) → List Sample → Type 0
Neighbours P [] = Unit {0}
Neighbours P (s ∷ []) = Unit {0}
Neighbours P (s ∷ r ∷ l) = P s r × Neighbours P (r ∷ l)

-- it holds of every sample but the last
abbrev pub ButLast : (Sample → Type 0) → List Sample → Type 0
ButLast P [] = Unit {0}
ButLast P (s ∷ []) = Unit {0}
ButLast P (s ∷ r ∷ l) = P s × ButLast P (r ∷ l)

follow : (m : ℕ) (l : List Sample) → Running m l → Neighbours (λ s r. r.time ≡ s.time + s.duration) l
follow m [] a = tt
follow m (s ∷ []) a = tt
follow m (s ∷ r ∷ l) a = (omega (arith, a.0, a.1.0), follow (m + s.duration) (r ∷ l) a.1)

pub times-follow : (f : List ℕ) (t : Track) → Neighbours (λ s r. r.time ≡ s.time + s.duration) (samples_of f t)
times-follow f t = follow 0 (samples_of f t) (times-run f t)

rise : (l : List Sample) → Neighbours (λ s r. r.time ≡ s.time + s.duration) l → ButLast (λ s. s.duration ≡ 0 → ⊥) l
    → Neighbours (λ s r. s.time < r.time) l
rise [] a b = tt
rise (s ∷ []) a b = tt
rise (s ∷ r ∷ l) a b = (omega (arith, a.0, b.0), rise (r ∷ l) a.1 b.1)

pub times-rise : (f : List ℕ) (t : Track) → ButLast (λ s. s.duration ≡ 0 → ⊥) (samples_of f t) → Neighbours (λ s r. s.time < r.time) (samples_of f t)
times-rise f t b = rise (samples_of f t) (times-follow f t) b
