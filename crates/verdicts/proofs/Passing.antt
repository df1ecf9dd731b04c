-- Questions that all pass: F1 for every track; F2 and F3 for every sample. Assumes nothing.
use Prim.Native.Nat.{ℕ, ◌<◌}
use mathlib.Core.Path.{◌≡◌, refl, ap}
use mathlib.Core.List.{List, [], ◌∷◌}
use mathlib.Core.Bool.{Bool, true, false}
use native.Mathlib.Omega.{arith}
use lib.Dec.{eqb}
use borrow.Author.Tests.{eqb-false, ne_eqb}
use Rattle.numbers.specs.Field.{when}
use Rattle.samples.specs.declared.Sample.{Sample}
use Rattle.verdicts.specs.Findings.{Track, track, claim, F1, F2, F3, Answer, passes, found, first_found}
use Rattle.verdicts.specs.declared.Finding.{Finding}
use Rattle.verdicts.specs.Audit.{agreements, sized, lasting, passed_in, passed}
use Rattle.verdicts.specs.Meaning.{All, Neighbours, NeighboursIn, Lasts, Agrees}
use Rattle.verdicts.proofs.Laws.{all_join, all_split}
use Rattle.verdicts.proofs.Sound.{not-passes, NonEmpty}

abbrev pub Passing : Answer → Type 0
Passing a = a ≡ passes

pub all_pass : (l : List Answer) → first_found l ≡ passes → All Passing l
all_pass [] e = tt
all_pass (passes ∷ l) e = (refl, all_pass l e)
all_pass (found f ∷ l) e = absurd (not-passes f e)

pub pass_all : (l : List Answer) → All Passing l → first_found l ≡ passes
pass_all [] h = refl
pass_all (passes ∷ l) h = pass_all l h.1
pass_all (found f ∷ l) h = h.0

module _ (f : Finding) where
  pub passes-true : (b : Bool) → when b passes (found f) ≡ passes → b ≡ true
  unfolding when
  passes-true true e = refl
  passes-true false e = absurd (not-passes f e)

  pub true-passes : (b : Bool) → b ≡ true → when b passes (found f) ≡ passes
  unfolding when
  true-passes b e = ap (λ (x : Bool). when x passes (found f)) e

  passes-false : (b : Bool) → when b (found f) passes ≡ passes → b ≡ false
  unfolding when
  passes-false true e = absurd (not-passes f e)
  passes-false false e = refl

  false-passes : (b : Bool) → b ≡ false → when b (found f) passes ≡ passes
  unfolding when
  false-passes b e = ap (λ (x : Bool). when x (found f) passes) e

-- F1

pub agree-sound : (ts : List Track) → All Passing (agreements ts) → All Agrees ts
agree-sound [] h = tt
agree-sound (track n a l ∷ ts) h = (passes-true (F1 n) a h.0, agree-sound ts h.1)

pub agree-complete : (ts : List Track) → All Agrees ts → All Passing (agreements ts)
agree-complete [] h = tt
agree-complete (track n a l ∷ ts) h = (true-passes (F1 n) a h.0, agree-complete ts h.1)

-- F2 and F3

module _ (n : ℕ) (s : Sample) where
  sized-sound : Passing (sized (claim n s)) → 0 < s.size
  sized-sound e = omega (arith, eqb-false s.size 0 (passes-false (F2 (claim n s)) (eqb s.size 0) e))

  sized-complete : 0 < s.size → Passing (sized (claim n s))
  sized-complete h = false-passes (F2 (claim n s)) (eqb s.size 0) (ne_eqb s.size 0 (λ z. omega arith))

  lasting-sound : Passing (lasting (claim n s)) → 0 < s.duration
  lasting-sound e = omega (arith, eqb-false s.duration 0 (passes-false (F3 (claim n s)) (eqb s.duration 0) e))

  lasting-complete : 0 < s.duration → Passing (lasting (claim n s))
  lasting-complete h = false-passes (F3 (claim n s)) (eqb s.duration 0) (ne_eqb s.duration 0 (λ z. omega arith))

in-sound : (n : ℕ) (l : List Sample) → All Passing (passed_in n l) → All (λ s. 0 < s.size) l × Neighbours Lasts l
in-sound n [] h = (tt, tt)
in-sound n (s ∷ []) h = ((sized-sound n s h.0, tt), (tt, tt))
in-sound n (s ∷ u ∷ l) h =
    let i = in-sound n (u ∷ l) h.1.1 in
    ((sized-sound n s h.0, i.0), (lasting-sound n s h.1.0, i.1))

in-complete : (n : ℕ) (l : List Sample) → All (λ s. 0 < s.size) l → Neighbours Lasts l → All Passing (passed_in n l)
in-complete n [] h k = tt
in-complete n (s ∷ []) h k = (sized-complete n s h.0, tt)
in-complete n (s ∷ u ∷ l) h k = (sized-complete n s h.0, (lasting-complete n s k.0, in-complete n (u ∷ l) h.1 k.1))

pub pass-sound : (ts : List Track) → All Passing (passed ts) → NonEmpty ts × NeighboursIn Lasts ts
pass-sound [] h = (tt, tt)
pass-sound (track n a l ∷ ts) h =
    let j = all_split Passing (passed_in n l) (passed ts) h in
    let i = in-sound n l j.0 in
    let k = pass-sound ts j.1 in
    ((i.0, k.0), (i.1, k.1))

pub pass-complete : (ts : List Track) → NonEmpty ts → NeighboursIn Lasts ts → All Passing (passed ts)
pass-complete [] h k = tt
pass-complete (track n a l ∷ ts) h k = all_join Passing (passed_in n l) (passed ts) (in-complete n l h.0 k.0) (pass-complete ts h.1 k.1)
