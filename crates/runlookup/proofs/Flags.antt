-- Whether a sample is sync, by its place. Assumes nothing.
use Rattle.std.specs.Prelude.{Ok, Err}
use Prim.Native.Nat.{ℕ, zero, suc, ◌+◌, ◌-◌, ◌<◌}
use mathlib.Core.Path.{◌≡◌, refl, sym, ap, ◌∙◌}
use mathlib.Core.List.{List, [], ◌∷◌}
use mathlib.Core.Bool.{Bool, true, false}
use native.Mathlib.Omega.{arith}
use lib.ListN.{length, drop}
use lib.Dec.{ltb}
use borrow.Author.Tests.{ltb-true}
use Rattle.numbers.specs.Field.{when}
use Rattle.numbers.specs.declared.Refusal.TheVariants as refusal
use Rattle.samples.specs.declared.Sample.{Sample}
use Rattle.lookup.specs.Lookup.{flagged, sync_of}
use Rattle.runs.specs.Values.{duration_at, size_at, flags_at, sync_by}
use Rattle.runs.specs.Samples.{sample_at, samples_from, run_samples}
use Rattle.runs.specs.declared.Run.{Run}
use Rattle.runs.proofs.Left.{how-many}
use Rattle.fragments.specs.Samples.{count_of, samples_of_runs}
use Rattle.fragments.proofs.Cases.{length-mine}
use Rattle.runlookup.specs.Lookup.{place_in}
use Rattle.runlookup.specs.declared.Place.{Place}
use Rattle.runlookup.specs.declared.Place.TheVariants.{At, Missing}
use Rattle.runlookup.proofs.Places.{at_place, by_place, all-mine}

-- a place is one of the run's own samples
inside : (t b k : ℕ) (rs : List Run) (r : Run) (c j : ℕ) → place_in t b k rs ≡ At r c j → j < count_of t r
unfolding place_in when
inside t b k [] r c j e = let z : ◌≡◌ {A = ℕ} 0 1 = cc in absurd (omega arith)
inside t b k (x ∷ rs) r c j e = cases (ltb k (count_of t x)) refl e (inside t (b + count_of t x) (k - count_of t x) rs r c j)
  where
    cases : (y : Bool) → ltb k (count_of t x) ≡ y → when y (At x b k) (place_in t (b + count_of t x) (k - count_of t x) rs) ≡ At r c j
        → (place_in t (b + count_of t x) (k - count_of t x) rs ≡ At r c j → j < count_of t r) → j < count_of t r
    cases true d g ih =
        let p : x ≡ r = cc in
        let q : k ≡ j = cc in
        let h : count_of t x ≡ count_of t r = ap (count_of t) p in
        omega (arith, q, h, ltb-true k (count_of t x) d)
    cases false d g ih = ih g

-- the flag of a sample is that of its index in the run
module _ (f : List ℕ) (r : Run) (m : ℕ) where
  flag-from : (j k i n at time : ℕ) → j < k → Ok (sync_by (flags_at f r (i + j))) ≡ flagged m (drop j (samples_from f r k i n at time))
  unfolding sample_at
  flag-from j zero i n at time h = absurd (omega arith)
  flag-from zero (suc k) i n at time h =
      let e : i + 0 ≡ i = omega arith in ap (λ (x : ℕ). Ok (sync_by (flags_at f r x))) e
  flag-from (suc j) (suc k) i n at time h =
      let e : i + suc j ≡ i + 1 + j = omega arith in
      ap (λ (x : ℕ). Ok (sync_by (flags_at f r x))) e ∙ flag-from j k (i + 1) (n + 1) (at + size_at f r i) (time + duration_at f r i) (omega arith)

  flag_at : (b j : ℕ) → j < r.trun.sample_count → Ok (sync_by (flags_at f r j)) ≡ flagged m (drop j (run_samples f r b))
  unfolding run_samples
  flag_at b j h =
      let e : j ≡ 0 + j = omega arith in
      ap (λ (x : ℕ). Ok (sync_by (flags_at f r x))) e ∙ flag-from j r.trun.sample_count 0 b r.start r.time h

sync-is : (l : List Sample) (n : ℕ) → (n ≡ 0 → ⊥) → sync_of l n ≡ flagged n (drop (n - 1) l)
unfolding sync_of
sync-is l zero h = absurd (h refl)
sync-is l (suc n) h = let e : suc n - 1 ≡ n = omega arith in ap (λ (k : ℕ). flagged (suc n) (drop k l)) (sym e)

module _ (f : List ℕ) (rs : List Run) (t m : ℕ) where
  by_first : (s : Sample) (l k : List Sample) → flagged m (s ∷ l) ≡ flagged m (s ∷ k)
  by_first s l k = refl

  pub no-flag-of-0 : m ≡ 0 → Err (refusal.NoSample 0) ≡ sync_of (samples_of_runs f rs t) m
  unfolding sync_of
  no-flag-of-0 e = sym (ap (sync_of (samples_of_runs f rs t)) e)

  module _ (h : m ≡ 0 → ⊥) (p : Place) (e : p ≡ place_in t 0 (m - 1) rs) where
    is_at : at_place (flagged m) by_first f p ≡ sync_of (samples_of_runs f rs t) m
    is_at = ap (at_place (flagged m) by_first f) e ∙ sym (by_place (flagged m) by_first f t 0 (m - 1) rs) ∙ sym (sync-is (samples_of_runs f rs t) m h)

    pub no_flag : p ≡ Missing → Err (refusal.NoSample m) ≡ sync_of (samples_of_runs f rs t) m
    no_flag g = sym (ap (at_place (flagged m) by_first f) g) ∙ is_at

    pub flag-of : (r : Run) (b j : ℕ) (x : Bool) → p ≡ At r b j → x ≡ sync_by (flags_at f r j) → Ok x ≡ sync_of (samples_of_runs f rs t) m
    flag-of r b j x g ex =
        let k = inside t 0 (m - 1) rs r b j (sym e ∙ g) in
        let c = ap (λ (l : List Sample). length l) (all-mine f t r b j k) in
        ap Ok ex ∙ flag_at f r m b j (omega (arith, k, c, length-mine f t b r, how-many f r b))
        ∙ sym (ap (at_place (flagged m) by_first f) g) ∙ is_at
