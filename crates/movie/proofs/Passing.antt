-- The pass over tracks, track by track. Assumes nothing.
use Rattle.std.specs.Prelude.{Option, Some, None}
use Prim.Native.Nat.{ℕ, ◌+◌, ◌-◌, ◌*◌, ◌<◌, ◌≤◌, ◌^◌, min}
use mathlib.Core.Path.{◌≡◌, refl, sym, ap, ap₂, ◌∙◌}
use mathlib.Core.List.{List, [], ◌∷◌}
use mathlib.Core.Bool.{Bool, true, false, ◌&&◌}
use native.Mathlib.Omega.{arith}
use lib.ListN.{length, take, drop, get_or}
use Rattle.numbers.specs.Field.{when}
use Rattle.samples.specs.Lists.{all_held}
use Rattle.samples.specs.declared.Sample.{Sample}
use Rattle.tables.specs.declared.Track as tables
use Rattle.tables.specs.Samples.{samples_of}
use Rattle.agree.specs.Agree.{agree_of}
use Rattle.runs.specs.declared.Run.{Run}
use Rattle.verdicts.specs.Findings.{Track, track, Answer, passes, found, first_found}
use Rattle.verdicts.specs.Sweep.{sum_in, total}
use Rattle.verdicts.specs.Audit.{passed_in, passed}
use Rattle.verdicts.specs.declared.Finding.{Finding}
use Rattle.verdicts.proofs.Order.{or_else, first-join}
use Rattle.passes.specs.Passed.{tell, passed_of}
use Rattle.passes.specs.declared.Passed.{Passed}
use Rattle.passes.specs.declared.Passed.TheVariants.{Over, Fine, Found}
use Rattle.movie.specs.Movie.{tracks_by, samples_fit, samples_by}
use Rattle.movie.specs.Inside.{pass_of, pass_all, either}
use Rattle.movie.proofs.Rows.{at_row, no_row}
use Rattle.movie.proofs.Asked.{answer_of}

-- ONE TRACK

module _ (b : Bool) (f : List ℕ) (rs : List Run) (n : ℕ) (t : tables.Track) where
  abbrev pub own : List Sample
  own = samples_by b f t rs n

  -- all samples fit, of the tables and of the track
  abbrev pub fit : Bool
  fit = all_held (samples_of f t) && all_held own

  module _ (r : Passed) (e : r ≡ pass_of b f rs n t) where
    over-both : (x y : Bool) (k : ℕ) (a : Answer) → when x (when y (tell k a) Over) Over ≡ Over → x && y ≡ false
    unfolding when
    over-both true true k passes q = let z : ◌≡◌ {A = ℕ} 0 1 = cc q in absurd (omega arith)
    over-both true true k (found w) q = let z : ◌≡◌ {A = ℕ} 0 1 = cc q in absurd (omega arith)
    over-both true false k a q = refl
    over-both false y k a q = refl

    number_in : Passed → ℕ
    number_in Over = 0
    number_in (Fine k) = k
    number_in (Found x) = 0

    finding_in : Passed → Answer
    finding_in Over = passes
    finding_in (Fine k) = passes
    finding_in (Found x) = found x

    fine-both : (x y : Bool) (k j : ℕ) (a : Answer) → when x (when y (tell k a) Over) Over ≡ Fine j → (x && y ≡ true) × (j ≡ k) × (a ≡ passes)
    unfolding when number_in
    fine-both true true k j passes q = (refl, sym (ap number_in q), refl)
    fine-both true true k j (found w) q = let z : ◌≡◌ {A = ℕ} 0 1 = cc q in absurd (omega arith)
    fine-both true false k j a q = let z : ◌≡◌ {A = ℕ} 0 1 = cc q in absurd (omega arith)
    fine-both false y k j a q = let z : ◌≡◌ {A = ℕ} 0 1 = cc q in absurd (omega arith)

    found-both : (x y : Bool) (k : ℕ) (a : Answer) (w : Finding) → when x (when y (tell k a) Over) Over ≡ Found w → (x && y ≡ true) × (a ≡ found w)
    unfolding when finding_in
    found-both true true k passes w q = let z : ◌≡◌ {A = ℕ} 0 1 = cc q in absurd (omega arith)
    found-both true true k (found v) w q = (refl, ap finding_in q)
    found-both true false k a w q = let z : ◌≡◌ {A = ℕ} 0 1 = cc q in absurd (omega arith)
    found-both false y k a w q = let z : ◌≡◌ {A = ℕ} 0 1 = cc q in absurd (omega arith)

    pub over-fits : r ≡ Over → fit ≡ false
    unfolding pass_of passed_of
    over-fits q = over-both (all_held (samples_of f t)) (all_held own) (length own) (first_found (passed_in n own)) (sym e ∙ q)

    pub fine-fits : (k : ℕ) → r ≡ Fine k → (fit ≡ true) × (k ≡ length own) × (first_found (passed_in n own) ≡ passes)
    unfolding pass_of passed_of
    fine-fits k q = fine-both (all_held (samples_of f t)) (all_held own) (length own) k (first_found (passed_in n own)) (sym e ∙ q)

    pub found-fits : (x : Finding) → r ≡ Found x → (fit ≡ true) × (first_found (passed_in n own) ≡ found x)
    unfolding pass_of passed_of
    found-fits x q = found-both (all_held (samples_of f t)) (all_held own) (length own) (first_found (passed_in n own)) x (sym e ∙ q)

-- ALL TRACKS

length-sum : (l : List Sample) → sum_in (λ s. 1) l ≡ length l
length-sum [] = refl
length-sum (s ∷ l) = omega (arith, length-sum l)

or-passes : (a : Answer) → or_else a passes ≡ a
or-passes passes = refl
or-passes (found x) = refl

either_first : (a : Option Finding) (x : Finding) (b : Answer) → or_else (answer_of (either a x)) b ≡ or_else (answer_of a) (found x)
either_first None x b = refl
either_first (Some y) x b = refl

module _ (b : Bool) (f : List ℕ) (rs : List Run) (ns : List ℕ) (ts : List tables.Track) (count : ℕ) where
  -- the tracks from the i-th on
  abbrev fit_from : ℕ → Bool
  fit_from i = samples_fit b f rs (drop i (take count ns)) (drop i (take count ts))

  abbrev tracks_from : ℕ → List Track
  tracks_from i = tracks_by b f rs (drop i (take count ns)) (drop i (take count ts))

  -- i tracks are passed, with so many samples and this first finding
  pub record Passing (i sum : ℕ) (first : Option Finding) : Type 0 where
    pub fits : fit_from i ≡ fit_from 0
    pub finds : or_else (answer_of first) (first_found (passed (tracks_from i))) ≡ first_found (passed (tracks_from 0))
    pub counts : first ≡ None → sum + total (tracks_from i) ≡ total (tracks_from 0)
    pub few : sum ≤ i * 2 ^ 32

  pub passing : Passing 0 0 None
  passing = record { fits = refl; finds = refl; counts = λ q. omega arith; few = omega arith }

  module _ (i sum : ℕ) (first : Option Finding) (w : Passing i sum first) where
    -- BEHIND THE LAST
    module _ (h : length ns ≡ 4) (k : length ts ≡ 4) (g : min count 4 ≤ i) where
      fit_none : fit_from i ≡ true
      fit_none = ap₂ (λ (x : List ℕ) (y : List tables.Track). samples_fit b f rs x y) (no_row ns count i g h) (no_row ts count i g k)

      tracks-none : tracks_from i ≡ []
      tracks-none = ap₂ (λ (x : List ℕ) (y : List tables.Track). tracks_by b f rs x y) (no_row ns count i g h) (no_row ts count i g k)

      finds-none : answer_of first ≡ first_found (passed (tracks_from 0))
      finds-none = sym (or-passes (answer_of first)) ∙ ap (λ (l : List Track). or_else (answer_of first) (first_found (passed l))) (sym tracks-none) ∙ w.finds

      all_told : (j : ℕ) (a : Answer) → j ≡ total (tracks_from 0) → a ≡ first_found (passed (tracks_from 0)) → tell j a ≡ pass_all b f rs (take count ns) (take count ts)
      unfolding pass_all when
      all_told j a p q = ap₂ tell p q ∙ sym (ap (λ (x : Bool). when x (tell (total (tracks_from 0)) (first_found (passed (tracks_from 0)))) Over) (sym w.fits ∙ fit_none))

      any_told : (x : Finding) → found x ≡ first_found (passed (tracks_from 0)) → Found x ≡ pass_all b f rs (take count ns) (take count ts)
      any_told x q = all_told (total (tracks_from 0)) (found x) refl q

      pub ends-fine : first ≡ None → Fine sum ≡ pass_all b f rs (take count ns) (take count ts)
      ends-fine q = all_told sum passes (omega (arith, w.counts q, ap total tracks-none)) (ap answer_of (sym q) ∙ finds-none)

      pub ends_found : (x : Finding) → first ≡ Some x → Found x ≡ pass_all b f rs (take count ns) (take count ts)
      ends_found x q = any_told x (ap answer_of (sym q) ∙ finds-none)

    -- AT A TRACK
    module _ (d : tables.Track) (c : i < count) (h : i < length ns) (k : i < length ts) (r : Passed) (e : r ≡ pass_of b f rs (get_or ns i 0) (get_or ts i d)) where
      abbrev here : List Sample
      here = own b f rs (get_or ns i 0) (get_or ts i d)

      fit-more : fit_from i ≡ (fit b f rs (get_or ns i 0) (get_or ts i d)) && fit_from (i + 1)
      fit-more = ap₂ (λ (x : List ℕ) (y : List tables.Track). samples_fit b f rs x y) (at_row ns count i 0 c h) (at_row ts count i d c k)

      tracks-more : tracks_from i ≡ track (get_or ns i 0) (agree_of f (get_or ts i d)) here ∷ tracks_from (i + 1)
      tracks-more = ap₂ (λ (x : List ℕ) (y : List tables.Track). tracks_by b f rs x y) (at_row ns count i 0 c h) (at_row ts count i d c k)

      found-more : first_found (passed (tracks_from i)) ≡ or_else (first_found (passed_in (get_or ns i 0) here)) (first_found (passed (tracks_from (i + 1))))
      found-more = ap (λ (l : List Track). first_found (passed l)) tracks-more ∙ first-join (passed_in (get_or ns i 0) here) (passed (tracks_from (i + 1)))

      total-more : total (tracks_from i) ≡ length here + total (tracks_from (i + 1))
      total-more = ap total tracks-more ∙ ap (λ (j : ℕ). j + total (tracks_from (i + 1))) (length-sum here)

      pub stops-over : r ≡ Over → Over ≡ pass_all b f rs (take count ns) (take count ts)
      unfolding pass_all when
      stops-over q =
          let z : fit_from 0 ≡ false = sym w.fits ∙ fit-more ∙ ap (λ (x : Bool). x && fit_from (i + 1)) (over-fits b f rs (get_or ns i 0) (get_or ts i d) r e q) in
          sym (ap (λ (x : Bool). when x (tell (total (tracks_from 0)) (first_found (passed (tracks_from 0)))) Over) z)

      fits_on : fit b f rs (get_or ns i 0) (get_or ts i d) ≡ true → fit_from (i + 1) ≡ fit_from 0
      fits_on q = sym (fit-more ∙ ap (λ (x : Bool). x && fit_from (i + 1)) q) ∙ w.fits

      pub goes-fine : (j : ℕ) → r ≡ Fine j → j ≤ 2 ^ 32 → Passing (i + 1) (sum + j) first
      goes-fine j q l =
          let (u, v, x) = fine-fits b f rs (get_or ns i 0) (get_or ts i d) r e j q in
          record {
            fits = fits_on u;
            finds = ap (or_else (answer_of first)) (sym (found-more ∙ ap (λ (a : Answer). or_else a (first_found (passed (tracks_from (i + 1))))) x)) ∙ w.finds;
            counts = λ p. omega (arith, w.counts p, total-more, v);
            few = omega (arith, w.few, l);
          }

      not-passes : (x : Finding) → either first x ≡ None → ⊥
      not-passes x p = cases first p
        where
          cases : (a : Option Finding) → either a x ≡ None → ⊥
          cases None p = let z : ◌≡◌ {A = ℕ} 0 1 = cc p in omega arith
          cases (Some y) p = let z : ◌≡◌ {A = ℕ} 0 1 = cc p in omega arith

      pub goes-found : (x : Finding) (a : Option Finding) → r ≡ Found x → a ≡ either first x → Passing (i + 1) sum a
      goes-found x a q p =
          let (u, v) = found-fits b f rs (get_or ns i 0) (get_or ts i d) r e x q in
          record {
            fits = fits_on u;
            finds = ap (λ (z : Option Finding). or_else (answer_of z) (first_found (passed (tracks_from (i + 1))))) p ∙ either_first first x (first_found (passed (tracks_from (i + 1))))
                ∙ ap (or_else (answer_of first)) (sym (found-more ∙ ap (λ (z : Answer). or_else z (first_found (passed (tracks_from (i + 1))))) v)) ∙ w.finds;
            counts = λ z. absurd (not-passes x (sym p ∙ z));
            few = omega (arith, w.few);
          }
