-- The pass over one track, and that no track has more samples than 32 bits number. Assumes nothing.
use Rattle.movie.specs.Movie.{samples_by}
use Prim.Native.Nat.{ℕ, suc, ◌+◌, ◌-◌, ◌<◌, ◌≤◌, ◌^◌}
use mathlib.Core.Path.{◌≡◌, refl, sym, ap, subst, ◌∙◌}
use mathlib.Core.List.{List, [], ◌∷◌}
use mathlib.Core.Bool.{Bool, true, false}
use native.Mathlib.Omega.{arith}
use lib.ListN.{length, drop}
use Rattle.numbers.specs.Field.{when}
use Rattle.samples.specs.Lists.{held, all_held}
use Rattle.samples.specs.declared.Sample.{Sample}
use Rattle.samples.proofs.Fits.{number-held}
use Rattle.tables.specs.declared.Track as tables
use Rattle.tables.specs.Samples.{samples_of}
use Rattle.runs.specs.declared.Run.{Run}
use Rattle.fragments.specs.Samples.{samples_of_runs}
use Rattle.runlookup.proofs.Numbers.{numbers-from-1}
use Rattle.lists.proofs.Laws.{few}
use Rattle.verdicts.specs.Findings.{Answer, passes, found, first_found}
use Rattle.verdicts.specs.Audit.{passed_in}
use Rattle.passes.specs.Passed.{tell, passed_of}
use Rattle.passes.specs.declared.Passed.{Passed}
use Rattle.passes.specs.declared.Passed.TheVariants.{Over}
use Rattle.movie.specs.Inside.{pass_of, Few, is_over}
use Rattle.movie.proofs.Booleans.{both, not-true, not-false}

-- HOW MANY

-- samples that are numbered one by one, and fit
held-few : (l : List Sample) (c : ℕ) → ((j : ℕ) (s : Sample) (m : List Sample) → drop j l ≡ s ∷ m → s.number ≡ (c + j) + 1) → all_held l ≡ true → c ≤ 2 ^ 32 → c + length l ≤ 2 ^ 32
held-few [] c n h k = omega arith
held-few (s ∷ l) c n h k =
    let (u, v) = both (held s) (all_held l) h in
    let i = held-few l (c + 1) (λ j x m e. omega (arith, n (suc j) x m e)) v (omega (arith, number-held s u, n 0 s l refl)) in
    omega (arith, i)

few-by : (n : ℕ) (l : List Sample) → (all_held l ≡ true → length l ≤ 2 ^ 32) → Few (passed_of n l)
unfolding passed_of when
few-by n l h = cases (all_held l) refl (first_found (passed_in n l))
  where
    cases : (b : Bool) → all_held l ≡ b → (a : Answer) → Few (when b (tell (length l) a) Over)
    cases true e passes = h e
    cases true e (found x) = tt
    cases false e a = tt

module _ (f : List ℕ) (n : ℕ) where
  pub few-tables : (t : tables.Track) → t.stsz.count < 2 ^ 32 → Few (passed_of n (samples_of f t))
  few-tables t h = few-by n (samples_of f t) (λ e. omega (arith, few f t))

  pub few-runs : (rs : List Run) → Few (passed_of n (samples_of_runs f rs n))
  few-runs rs = few-by n (samples_of_runs f rs n) (λ h. omega (arith, held-few (samples_of_runs f rs n) 0 (λ j s m e. omega (arith, numbers-from-1 f n rs j s m e)) h (omega arith)))

-- ONE TRACK

module _ (f : List ℕ) (rs : List Run) (n : ℕ) (t : tables.Track) (own : Passed) (e : own ≡ passed_of n (samples_of f t)) where
  by-held : (b c : Bool) (a : Answer) (k : ℕ) → c ≡ is_over (when b (tell k a) Over) → (c ≡ true → b ≡ false) × (c ≡ false → b ≡ true)
  unfolding when
  by-held true c passes k q = (λ z. absurd (not-false (sym z ∙ q)), λ z. refl)
  by-held true c (found x) k q = (λ z. absurd (not-false (sym z ∙ q)), λ z. refl)
  by-held false c a k q = (λ z. refl, λ z. absurd (not-true (sym z ∙ q)))

  held_by : (c : Bool) → c ≡ is_over own → (c ≡ true → all_held (samples_of f t) ≡ false) × (c ≡ false → all_held (samples_of f t) ≡ true)
  unfolding passed_of
  held_by c q = by-held (all_held (samples_of f t)) c (first_found (passed_in n (samples_of f t))) (length (samples_of f t)) (q ∙ ap is_over e)

  module _ (c : Bool) (q : c ≡ is_over own) where
    pub tables-over : c ≡ true → (b : Bool) → Over ≡ pass_of b f rs n t
    unfolding pass_of when
    tables-over z b = sym (ap (λ (x : Bool). when x (passed_of n (samples_by b f t rs n)) Over) ((held_by c q).0 z))

    pub by_runs : c ≡ false → (r : Passed) → r ≡ passed_of n (samples_of_runs f rs n) → (b : Bool) → b ≡ true → (r ≡ pass_of b f rs n t) × Few r
    unfolding pass_of when
    by_runs z r p b y = (
      p ∙ sym (ap (λ (x : Bool). when x (passed_of n (samples_by b f t rs n)) Over) ((held_by c q).1 z) ∙ ap (λ (x : Bool). passed_of n (samples_by x f t rs n)) y),
      subst Few (sym p) (few-runs f n rs),
    )

  again : (b : Bool) (x : Passed) → when b x Over ≡ when b (when b x Over) Over
  unfolding when
  again true x = refl
  again false x = refl

  pub by-tables : t.stsz.count < 2 ^ 32 → (b : Bool) → b ≡ false → (own ≡ pass_of b f rs n t) × Few own
  unfolding pass_of passed_of when
  by-tables h b y = (
    e ∙ again (all_held (samples_of f t)) (tell (length (samples_of f t)) (first_found (passed_in n (samples_of f t)))) ∙ ap (λ (x : Bool). when (all_held (samples_of f t)) (passed_of n (samples_by x f t rs n)) Over) (sym y),
    subst Few (sym e) (few-tables f n t h),
  )
