-- The place of a sample by the counts of runs, and the sample at that place. Assumes nothing.
use Rattle.std.specs.Prelude.{Ok, Err}
use Prim.Native.Nat.{ℕ, zero, suc, ◌+◌, ◌-◌, ◌≤◌, ◌<◌}
use mathlib.Core.Path.{◌≡◌, refl, sym, ap, ◌∙◌}
use mathlib.Core.List.{List, [], ◌∷◌, ◌++◌}
use mathlib.Core.Bool.{Bool, true, false}
use native.Mathlib.Omega.{arith}
use lib.ListN.{length, drop}
use lib.Seq.{drop-nil, drop-append-add}
use lib.Dec.{eqb, ltb}
use lib.IntN.{ℤ}
use borrow.Author.Tests.{ltb-true, ltb-false}
use Rattle.numbers.specs.Field.{when}
use Rattle.numbers.specs.declared.Refusal.TheVariants as refusal
use Rattle.numbers.proofs.Chain.{is_lt, not-lt, by-true, by-false}
use Rattle.samples.specs.Lists.{view, located, first_of, lookup_of}
use Rattle.samples.specs.declared.Sample.{Sample}
use Rattle.runs.specs.Samples.{run_samples}
use Rattle.runs.specs.declared.Run.{Run}
use Rattle.runs.specs.declared.Lane.{Lane}
use Rattle.runs.specs.declared.Taken.{Taken}
use Rattle.samples.proofs.Views.{view-none, view-over, view-one}
use Rattle.fragments.specs.Samples.{count_of, mine, samples_after, samples_of_runs}
use Rattle.fragments.proofs.Cases.{length-mine}
use Rattle.runlookup.specs.Lookup.{place_in}
use Rattle.runlookup.specs.declared.Place.{Place}
use Rattle.runlookup.specs.declared.Place.TheVariants.{At, Missing}
use Rattle.runs.specs.Lane as run
use Rattle.runs.specs.declared.Taken.TheVariants as taken

-- THE WALK OVER ROWS

module _ (t b k : ℕ) where
  pub place_none : (rs : List Run) → rs ≡ [] → Missing ≡ place_in t b k rs
  unfolding place_in
  place_none rs e = sym (ap (place_in t b k) e)

  module _ (r : Run) (rs : List Run) where
    pub place_here : k < count_of t r → At r b k ≡ place_in t b k (r ∷ rs)
    unfolding place_in
    place_here h = is_lt _ _ _ k (count_of t r) h refl

    pub place-later : count_of t r ≤ k → place_in t (b + count_of t r) (k - count_of t r) rs ≡ place_in t b k (r ∷ rs)
    unfolding place_in
    place-later h = not-lt _ _ _ k (count_of t r) h refl

-- what is left of the rows is rs, and `left` samples are still to be passed of k
module _ (t k left : ℕ) (rs : List Run) (p : Place) (inv : place_in t (k - left) left rs ≡ p) where
  pub walk_none : rs ≡ [] → Missing ≡ p
  walk_none e = place_none t (k - left) left rs e ∙ inv

  module _ (r : Run) (rest : List Run) (e : rs ≡ r ∷ rest) (n : ℕ) (en : n ≡ count_of t r) where
    pub walk_here : left < n → At r (k - left) left ≡ p
    walk_here h = place_here t (k - left) left r rest (omega (arith, en)) ∙ sym (ap (place_in t (k - left) left) e) ∙ inv

    pub walk-later : n ≤ left → left ≤ k → place_in t (k - (left - n)) (left - n) rest ≡ p
    walk-later h g =
        let q : k - (left - n) ≡ k - left + n = omega arith in
        ap (λ (b : ℕ). place_in t b (left - n) rest) q ∙ ap (λ (c : ℕ). place_in t (k - left + c) (left - c) rest) en
        ∙ place-later t (k - left) left r rest (omega (arith, en)) ∙ sym (ap (place_in t (k - left) left) e) ∙ inv

-- THE SAMPLE AT A PLACE

pub drop_past : (j : ℕ) (l k : List Sample) → length l ≤ j → drop j (l ++ k) ≡ drop (j - length l) k
drop_past j l k h =
    let e : j ≡ length l + (j - length l) = omega arith in
    ap (λ (i : ℕ). drop i (l ++ k)) e ∙ drop-append-add l k (j - length l)

pub all-mine : (f : List ℕ) (t : ℕ) (r : Run) (b k : ℕ) → k < count_of t r → mine f t r b ≡ run_samples f r b
unfolding count_of mine when
all-mine f t r b k h = cases (eqb r.track t) h
  where
    cases : (x : Bool) → k < when x r.trun.sample_count 0 → when x (run_samples f r b) [] ≡ run_samples f r b
    cases true g = refl
    cases false g = absurd (omega arith)

-- A function that looks at the first of a list alone, of the samples from a place on.
module _ {A : Type 0} (g : List Sample → A) (first : (s : Sample) (l k : List Sample) → g (s ∷ l) ≡ g (s ∷ k)) where
  abbrev pub at_place : List ℕ → Place → A
  at_place f (At r b j) = g (drop j (run_samples f r b))
  at_place f Missing = g []

  -- the first of a list is the first of one with more behind it
  first-of : (j : ℕ) (l k : List Sample) → j < length l → g (drop j (l ++ k)) ≡ g (drop j l)
  first-of j [] k h = absurd (omega arith)
  first-of zero (s ∷ l) k h = first s (l ++ k) l
  first-of (suc j) (s ∷ l) k h = first-of j l k (omega arith)

  pub by_place : (f : List ℕ) (t b k : ℕ) (rs : List Run) → g (drop k (samples_after f t b rs)) ≡ at_place f (place_in t b k rs)
  unfolding place_in when
  by_place f t b k [] = ap g (drop-nil k)
  by_place f t b k (r ∷ rs) = cases (ltb k (count_of t r)) refl (by_place f t (b + count_of t r) (k - count_of t r) rs)
    where
      cases : (x : Bool) → ltb k (count_of t r) ≡ x → g (drop (k - count_of t r) (samples_after f t (b + count_of t r) rs)) ≡ at_place f (place_in t (b + count_of t r) (k - count_of t r) rs)
          → g (drop k (mine f t r b ++ samples_after f t (b + count_of t r) rs)) ≡ at_place f (when x (At r b k) (place_in t (b + count_of t r) (k - count_of t r) rs))
      cases true e ih =
          let h = ltb-true k (count_of t r) e in
          first-of k (mine f t r b) (samples_after f t (b + count_of t r) rs) (omega (arith, h, length-mine f t b r))
          ∙ ap (λ (l : List Sample). g (drop k l)) (all-mine f t r b k h)
      cases false e ih =
          let h = ltb-false k (count_of t r) e in
          ap g (drop_past k (mine f t r b) (samples_after f t (b + count_of t r) rs) (omega (arith, h, length-mine f t b r)))
          ∙ ap (λ (c : ℕ). g (drop (k - c) (samples_after f t (b + count_of t r) rs))) (length-mine f t b r) ∙ ih

-- THE SAMPLE OF A NUMBER

lookup-is : (l : List Sample) (n : ℕ) → (n ≡ 0 → ⊥) → lookup_of l n ≡ first_of n (drop (n - 1) l)
unfolding lookup_of
lookup-is l zero h = absurd (h refl)
lookup-is l (suc n) h = let e : suc n - 1 ≡ n = omega arith in ap (λ (k : ℕ). first_of (suc n) (drop k l)) (sym e)

module _ (f : List ℕ) (rs : List Run) (t m : ℕ) where
  by_first : (s : Sample) (l k : List Sample) → first_of m (s ∷ l) ≡ first_of m (s ∷ k)
  by_first s l k = refl

  pub none-of-0 : m ≡ 0 → Err (refusal.NoSample 0) ≡ lookup_of (samples_of_runs f rs t) m
  unfolding lookup_of
  none-of-0 e = sym (ap (lookup_of (samples_of_runs f rs t)) e)

  module _ (h : m ≡ 0 → ⊥) (p : Place) (e : p ≡ place_in t 0 (m - 1) rs) where
    is_at : at_place (first_of m) by_first f p ≡ lookup_of (samples_of_runs f rs t) m
    is_at = ap (at_place (first_of m) by_first f) e ∙ sym (by_place (first_of m) by_first f t 0 (m - 1) rs) ∙ sym (lookup-is (samples_of_runs f rs t) m h)

    pub no_place : p ≡ Missing → Err (refusal.NoSample m) ≡ lookup_of (samples_of_runs f rs t) m
    no_place g = sym (ap (at_place (first_of m) by_first f) g) ∙ is_at

    module _ (r : Run) (b j : ℕ) (g : p ≡ At r b j) (s : Taken) (es : run.shows f r s ≡ view (drop j (run_samples f r b))) where
      here : first_of m (drop j (run_samples f r b)) ≡ lookup_of (samples_of_runs f rs t) m
      here = sym (ap (at_place (first_of m) by_first f) g) ∙ is_at

      pub place_end : s ≡ taken.End → Err (refusal.NoSample m) ≡ lookup_of (samples_of_runs f rs t) m
      place_end q = sym (ap (first_of m) (view-none (drop j (run_samples f r b)) (sym (ap (run.shows f r) q) ∙ es))) ∙ here

      pub place-one : (x : Sample) (l : Lane) (c : ℤ) → s ≡ taken.One x l → c ≡ x.composition
          → Ok (record { offset = x.offset; size = x.size; time = x.time; duration = x.duration; composition = c }) ≡ lookup_of (samples_of_runs f rs t) m
      place-one x l c q ec =
          let v = view-one x (run.left f r l) (drop j (run_samples f r b)) (sym (ap (run.shows f r) q) ∙ es) in
          ap (λ (z : ℤ). Ok (record { offset = x.offset; size = x.size; time = x.time; duration = x.duration; composition = z })) ec
          ∙ by-true (Ok (located x)) (Err refusal.Overflow) _ _ v.1 refl ∙ sym (ap (first_of m) v.0) ∙ here

      pub place-over : s ≡ taken.Over → Err refusal.Overflow ≡ lookup_of (samples_of_runs f rs t) m
      place-over q =
          let v = view-over (drop j (run_samples f r b)) (sym (ap (run.shows f r) q) ∙ es) in
          by-false (Ok (located v.head)) (Err refusal.Overflow) _ _ v.not-held refl ∙ sym (ap (first_of m) v.is) ∙ here
