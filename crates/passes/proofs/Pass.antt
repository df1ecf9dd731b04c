-- The first finding of F2 and F3, by the first size that is 0 and the first duration before the last that is 0; and what
-- the tables of a track say of both. Assumes nothing.
use Rattle.std.specs.Prelude.{Option, Some, None}
use Prim.Native.Nat.{ℕ, zero, suc, ◌+◌, ◌-◌, ◌≤◌, ◌<◌}
use mathlib.Core.Path.{◌≡◌, refl, sym, ap, ap₂, ◌∙◌}
use mathlib.Core.List.{List, [], ◌∷◌}
use mathlib.Core.Bool.{Bool, true, false}
use native.Mathlib.Omega.{arith}
use lib.ListN.{length, take}
use lib.Seq.{take-take}
use lib.Dec.{leb, ltb, eqb, leb-suc-suc}
use borrow.Author.Tests.{le-leb, lt-leb, lt-ltb, le-ltb}
use Rattle.numbers.specs.Field.{when}
use Rattle.numbers.proofs.Chain.{by-true, by-false}
use Rattle.samples.specs.Lists.{all_held}
use Rattle.samples.specs.declared.Sample.{Sample}
use Rattle.tables.specs.Tables.{list_from, listed, values_of, pairs, groups, chunks, sizes, size_at, shifts, Syncs, syncs}
use Rattle.tables.specs.Samples.{place, rest, past_of, zipped, samples_of}
use Rattle.tables.specs.declared.Track.{Track}
use Rattle.lists.specs.Count.{count_of}
use Rattle.lists.proofs.Laws.{few, told, told_over}
use Rattle.verdicts.specs.Findings.{Answer, passes, found, first_found, claim, F2, F3}
use Rattle.verdicts.specs.Audit.{sized, lasting, passed_in}
use Rattle.verdicts.specs.declared.Finding.{Finding}
use Rattle.passes.specs.Passed.{tell, passed_of, of_sample, before_zero}
use Rattle.passes.specs.declared.Passed.TheVariants.{Over, Fine, Found}
use Rattle.passes.proofs.Zeros.{zero-first, not_first}

-- SAMPLES AS LISTS OF NUMBERS

abbrev pub sizes_in : List Sample → List ℕ
sizes_in [] = []
sizes_in (s ∷ l) = s.size ∷ sizes_in l

abbrev pub durations_in : List Sample → List ℕ
durations_in [] = []
durations_in (s ∷ l) = s.duration ∷ durations_in l

-- the durations before the last
abbrev pub earlier : List Sample → List ℕ
earlier [] = []
earlier (s ∷ []) = []
earlier (s ∷ u ∷ l) = s.duration ∷ earlier (u ∷ l)

-- numbers count on behind k
abbrev pub From : ℕ → List Sample → Type 0
From k [] = Unit {0}
From k (s ∷ l) = (s.number ≡ k + 1) × From (k + 1) l

earlier-take : (s : Sample) (l : List Sample) → earlier (s ∷ l) ≡ take (length l) (durations_in (s ∷ l))
earlier-take s [] = refl
earlier-take s (u ∷ l) = ap (λ (x : List ℕ). s.duration ∷ x) (earlier-take u l)

-- THE FIRST FINDING

-- by the first size and the first duration that is 0: a and b come before, n durations were asked, and the samples count
-- on behind k
abbrev pub first_by : ℕ → ℕ → ℕ → ℕ → ℕ → Answer
first_by t k n a b = when (leb a b) (found (of_sample 2 t (k + a + 1))) (when (ltb b n) (found (of_sample 3 t (k + b + 1))) passes)

module _ (t k n a b : ℕ) where
  by_size : a ≤ b → found (of_sample 2 t (k + a + 1)) ≡ first_by t k n a b
  by_size h = by-true _ _ _ (leb a b) (le-leb a b h) refl

  by-duration : b < a → b < n → found (of_sample 3 t (k + b + 1)) ≡ first_by t k n a b
  by-duration h q = by-false _ _ _ (leb a b) (lt-leb a b h) (by-true _ _ _ (ltb b n) (lt-ltb b n q) refl)

  by-none : b < a → n ≤ b → passes ≡ first_by t k n a b
  by-none h q = by-false _ _ _ (leb a b) (lt-leb a b h) (by-false _ _ _ (ltb b n) (le-ltb b n q) refl)

  by_next : first_by t (k + 1) n a b ≡ first_by t k (suc n) (suc a) (suc b)
  by_next =
      let e : k + 1 + a + 1 ≡ k + suc a + 1 = omega arith in
      let h : k + 1 + b + 1 ≡ k + suc b + 1 = omega arith in
      ap (λ (x : Bool). when x (found (of_sample 2 t (k + 1 + a + 1))) (when (ltb b n) (found (of_sample 3 t (k + 1 + b + 1))) passes)) (sym (leb-suc-suc a b))
      ∙ ap (λ (x : Bool). when (leb (suc a) (suc b)) (found (of_sample 2 t (k + 1 + a + 1))) (when x (found (of_sample 3 t (k + 1 + b + 1))) passes)) (sym (leb-suc-suc (suc b) n))
      ∙ ap₂ (λ (x y : ℕ). when (leb (suc a) (suc b)) (found (of_sample 2 t x)) (when (ltb (suc b) (suc n)) (found (of_sample 3 t y)) passes)) e h

-- what F2 and F3 tell of one sample
module _ (t : ℕ) (s : Sample) (l : List Answer) where
  pub empty : eqb s.size 0 ≡ true → first_found (sized (claim t s) ∷ l) ≡ found (of_sample 2 t s.number)
  unfolding when
  empty e = ap (λ (b : Bool). first_found (when b (found (F2 (claim t s))) passes ∷ l)) e

  pub not-empty : eqb s.size 0 ≡ false → first_found (sized (claim t s) ∷ l) ≡ first_found l
  unfolding when
  not-empty e = ap (λ (b : Bool). first_found (when b (found (F2 (claim t s))) passes ∷ l)) e

  pub idle : eqb s.duration 0 ≡ true → first_found (lasting (claim t s) ∷ l) ≡ found (of_sample 3 t s.number)
  unfolding when
  idle e = ap (λ (b : Bool). first_found (when b (found (F3 (claim t s))) passes ∷ l)) e

  pub not-idle : eqb s.duration 0 ≡ false → first_found (lasting (claim t s) ∷ l) ≡ first_found l
  unfolding when
  not-idle e = ap (λ (b : Bool). first_found (when b (found (F3 (claim t s))) passes ∷ l)) e

pub first-is : (t k : ℕ) (s : Sample) (l : List Sample) → From k (s ∷ l)
    → first_found (passed_in t (s ∷ l)) ≡ first_by t k (length l) (before_zero (sizes_in (s ∷ l))) (before_zero (earlier (s ∷ l)))
first-is t k s [] w = cases (eqb s.size 0) refl
  where
    cases : (a : Bool) → eqb s.size 0 ≡ a → first_found (passed_in t (s ∷ [])) ≡ first_by t k 0 (before_zero (s.size ∷ [])) 0
    cases true e =
        empty t s [] e ∙ ap (λ (x : ℕ). found (of_sample 2 t x)) (omega (arith, w.0, zero-first s.size [] e))
        ∙ by_size t k 0 (before_zero (s.size ∷ [])) 0 (omega (arith, zero-first s.size [] e))
    cases false e =
        not-empty t s [] e ∙ by-none t k 0 (before_zero (s.size ∷ [])) 0 (omega (arith, not_first s.size [] e)) (omega arith)
first-is t k s (u ∷ l) w = cases (eqb s.size 0) (eqb s.duration 0) refl refl (first-is t (k + 1) u l w.1)
  where
    cases : (x y : Bool) → eqb s.size 0 ≡ x → eqb s.duration 0 ≡ y
        → first_found (passed_in t (u ∷ l)) ≡ first_by t (k + 1) (length l) (before_zero (sizes_in (u ∷ l))) (before_zero (earlier (u ∷ l)))
        → first_found (passed_in t (s ∷ u ∷ l)) ≡ first_by t k (suc (length l)) (before_zero (s.size ∷ sizes_in (u ∷ l))) (before_zero (s.duration ∷ earlier (u ∷ l)))
    cases true y e d ih =
        empty t s (lasting (claim t s) ∷ passed_in t (u ∷ l)) e
        ∙ ap (λ (x : ℕ). found (of_sample 2 t x)) (omega (arith, w.0, zero-first s.size (sizes_in (u ∷ l)) e))
        ∙ by_size t k (suc (length l)) (before_zero (s.size ∷ sizes_in (u ∷ l))) (before_zero (s.duration ∷ earlier (u ∷ l))) (omega (arith, zero-first s.size (sizes_in (u ∷ l)) e))
    cases false true e d ih =
        not-empty t s (lasting (claim t s) ∷ passed_in t (u ∷ l)) e
        ∙ idle t s (passed_in t (u ∷ l)) d
        ∙ ap (λ (x : ℕ). found (of_sample 3 t x)) (omega (arith, w.0, zero-first s.duration (earlier (u ∷ l)) d))
        ∙ by-duration t k (suc (length l)) (before_zero (s.size ∷ sizes_in (u ∷ l))) (before_zero (s.duration ∷ earlier (u ∷ l)))
        (omega (arith, not_first s.size (sizes_in (u ∷ l)) e, zero-first s.duration (earlier (u ∷ l)) d))
        (omega (arith, zero-first s.duration (earlier (u ∷ l)) d))
    cases false false e d ih =
        not-empty t s (lasting (claim t s) ∷ passed_in t (u ∷ l)) e
        ∙ not-idle t s (passed_in t (u ∷ l)) d
        ∙ ih
        ∙ by_next t k (length l) (before_zero (sizes_in (u ∷ l))) (before_zero (earlier (u ∷ l)))
        ∙ ap₂ (λ (x y : ℕ). first_by t k (suc (length l)) x y) (sym (not_first s.size (sizes_in (u ∷ l)) e)) (sym (not_first s.duration (earlier (u ∷ l)) d))

-- WHAT THE TABLES SAY

sizes-zipped : (n m : ℕ) (ss ds os cs : List ℕ) (ys : Syncs) → sizes_in (zipped n m ss ds os cs ys) ≡ take (length (zipped n m ss ds os cs ys)) ss
sizes-zipped n m [] ds os cs ys = refl
sizes-zipped n m (z ∷ ss) [] os cs ys = refl
sizes-zipped n m (z ∷ ss) (d ∷ ds) [] cs ys = refl
sizes-zipped n m (z ∷ ss) (d ∷ ds) (o ∷ os) cs ys =
    ap (λ (x : List ℕ). z ∷ x) (sizes-zipped (n + 1) (m + d) ss ds os (rest cs) (past_of ys (n + 1)))

durations-zipped : (n m : ℕ) (ss ds os cs : List ℕ) (ys : Syncs) → durations_in (zipped n m ss ds os cs ys) ≡ take (length (zipped n m ss ds os cs ys)) ds
durations-zipped n m [] ds os cs ys = refl
durations-zipped n m (z ∷ ss) [] os cs ys = refl
durations-zipped n m (z ∷ ss) (d ∷ ds) [] cs ys = refl
durations-zipped n m (z ∷ ss) (d ∷ ds) (o ∷ os) cs ys =
    ap (λ (x : List ℕ). d ∷ x) (durations-zipped (n + 1) (m + d) ss ds os (rest cs) (past_of ys (n + 1)))

from-zipped : (n m : ℕ) (ss ds os cs : List ℕ) (ys : Syncs) → From n (zipped n m ss ds os cs ys)
from-zipped n m [] ds os cs ys = tt
from-zipped n m (z ∷ ss) [] os cs ys = tt
from-zipped n m (z ∷ ss) (d ∷ ds) [] cs ys = tt
from-zipped n m (z ∷ ss) (d ∷ ds) (o ∷ os) cs ys = (refl, from-zipped (n + 1) (m + d) ss ds os (rest cs) (past_of ys (n + 1)))

take-listed : (g : ℕ → ℕ) (k n i : ℕ) → k ≤ n → take k (list_from g n i) ≡ list_from g k i
take-listed g zero n i h = refl
take-listed g (suc k) zero i h = absurd (omega arith)
take-listed g (suc k) (suc n) i h = ap (λ (x : List ℕ). g i ∷ x) (take-listed g k n (suc i) (omega arith))

module _ (f : List ℕ) (t : Track) where
  abbrev ds : List ℕ
  ds = values_of (pairs f t.stts)

  abbrev os : List ℕ
  os = place (values_of (groups f t.stsc t.stco.count)) (chunks f t.stco) (sizes f t.stsz)

  -- the sizes of a track's samples are the first of stsz's, their durations the first of stts's
  pub sizes-are : sizes_in (samples_of f t) ≡ listed (size_at f t.stsz) (length (samples_of f t))
  sizes-are =
      sizes-zipped 0 0 (sizes f t.stsz) ds os (shifts f t.ctts) (syncs f t.stss)
      ∙ take-listed (size_at f t.stsz) (length (samples_of f t)) t.stsz.count 0 (few f t)

  pub durations-are : durations_in (samples_of f t) ≡ take (length (samples_of f t)) ds
  durations-are = durations-zipped 0 0 (sizes f t.stsz) ds os (shifts f t.ctts) (syncs f t.stss)

  pub numbers-are : From 0 (samples_of f t)
  numbers-are = from-zipped 0 0 (sizes f t.stsz) ds os (shifts f t.ctts) (syncs f t.stss)

-- at most as many come before the first 0 as are asked
before-few : (k : ℕ) (l : List ℕ) → before_zero (take k l) ≤ k
before-few zero l = omega arith
before-few (suc k) [] = omega arith
before-few (suc k) (x ∷ l) = cases (eqb x 0) refl (before-few k l)
  where
    cases : (b : Bool) → eqb x 0 ≡ b → before_zero (take k l) ≤ k → before_zero (x ∷ take k l) ≤ suc k
    cases true e h = omega (arith, zero-first x (take k l) e)
    cases false e h = omega (arith, not_first x (take k l) e, h)

-- ONE LAW FOR EACH RETURN

first-all : (t n : ℕ) (l : List Sample) → From 0 l → n ≡ length l → (n ≡ 0 → ⊥)
    → first_found (passed_in t l) ≡ first_by t 0 (n - 1) (before_zero (sizes_in l)) (before_zero (take (n - 1) (durations_in l)))
first-all t n [] w e h = absurd (h e)
first-all t n (s ∷ l) w e h =
    let q : length l ≡ n - 1 = omega (arith, e) in
    first-is t 0 s l w
    ∙ ap (λ (x : List ℕ). first_by t 0 (length l) (before_zero (sizes_in (s ∷ l))) (before_zero x)) (earlier-take s l)
    ∙ ap (λ (x : ℕ). first_by t 0 x (before_zero (sizes_in (s ∷ l))) (before_zero (take x (durations_in (s ∷ l))))) q

-- by an answer about samples that fit
module _ (t : ℕ) (l : List Sample) where
  pub pass-not : all_held l ≡ false → Over ≡ passed_of t l
  unfolding passed_of
  pass-not h = by-false _ _ _ (all_held l) h refl

  pub pass-by : (n : ℕ) (a : Answer) → (all_held l ≡ true) × (n ≡ length l) → a ≡ first_found (passed_in t l) → tell n a ≡ passed_of t l
  unfolding passed_of
  pass-by n a h e = by-true _ _ _ (all_held l) h.0 (ap₂ (λ (x : ℕ) (y : Answer). tell x y) h.1 e)

module _ (f : List ℕ) (track : Track) (t : ℕ) (r : Option ℕ) (er : r ≡ count_of (samples_of f track)) where
  pub pass-over : r ≡ None → Over ≡ passed_of t (samples_of f track)
  pass-over q = pass-not t (samples_of f track) (told_over (samples_of f track) r er q)

  module _ (n : ℕ) (q : r ≡ Some n) where
    fit : (all_held (samples_of f track) ≡ true) × (n ≡ length (samples_of f track))
    fit = told (samples_of f track) r n er q

    pub counted-few : n ≤ track.stsz.count
    counted-few = omega (arith, few f track, fit.1)

    pub pass-none : n ≡ 0 → Fine 0 ≡ passed_of t (samples_of f track)
    pass-none z = pass-by t (samples_of f track) 0 passes (fit.0, sym z ∙ fit.1) (none (samples_of f track) (sym z ∙ fit.1))
      where
        none : (l : List Sample) → 0 ≡ length l → passes ≡ first_found (passed_in t l)
        none [] e = refl
        none (s ∷ l) e = absurd (omega (arith, e))

    module _ (some : n ≡ 0 → ⊥) (a b : ℕ) (ea : a ≡ before_zero (listed (size_at f track.stsz) n)) (eb : b ≡ before_zero (take (n - 1) (values_of (pairs f track.stts)))) where
      pub lasting-few : b ≤ n - 1
      lasting-few = omega (arith, eb, before-few (n - 1) (values_of (pairs f track.stts)))

      first-by : first_by t 0 (n - 1) a b ≡ first_found (passed_in t (samples_of f track))
      first-by =
          let z : before_zero (sizes_in (samples_of f track)) ≡ a =
          ap before_zero (sizes-are f track) ∙ ap (λ (k : ℕ). before_zero (listed (size_at f track.stsz) k)) (sym fit.1) ∙ sym ea in
          let d : before_zero (take (n - 1) (durations_in (samples_of f track))) ≡ b =
          ap (λ (x : List ℕ). before_zero (take (n - 1) x)) (durations-are f track)
          ∙ ap before_zero (take-take (n - 1) (length (samples_of f track)) (values_of (pairs f track.stts)) (omega (arith, fit.1)))
          ∙ sym eb in
          sym (first-all t n (samples_of f track) (numbers-are f track) fit.1 some ∙ ap₂ (λ (x y : ℕ). first_by t 0 (n - 1) x y) z d)

      pub pass-size : (x : Finding) → a ≤ b → x ≡ of_sample 2 t (a + 1) → Found x ≡ passed_of t (samples_of f track)
      pass-size x h e =
          let z : a + 1 ≡ 0 + a + 1 = omega arith in
          pass-by t (samples_of f track) n (found x) fit
          (ap found (e ∙ ap (of_sample 2 t) z) ∙ by_size t 0 (n - 1) a b h ∙ first-by)

      pub pass-duration : (x : Finding) → b < a → b < n - 1 → x ≡ of_sample 3 t (b + 1) → Found x ≡ passed_of t (samples_of f track)
      pass-duration x h k e =
          let z : b + 1 ≡ 0 + b + 1 = omega arith in
          pass-by t (samples_of f track) n (found x) fit
          (ap found (e ∙ ap (of_sample 3 t) z) ∙ by-duration t 0 (n - 1) a b h k ∙ first-by)

      pub pass-fine : b < a → n - 1 ≤ b → Fine n ≡ passed_of t (samples_of f track)
      pass-fine h k = pass-by t (samples_of f track) n passes fit (by-none t 0 (n - 1) a b h k ∙ first-by)
