-- What the walk over a lane knows, step by step, of F2 and F3 in all samples. Assumes nothing.
use Rattle.std.specs.Prelude.{Option, Some, None}
use Prim.Native.Nat.{ℕ, ◌+◌, ◌^◌, ◌<◌}
use mathlib.Core.Path.{◌≡◌, refl, sym, ap, ◌∙◌}
use mathlib.Core.List.{List, [], ◌∷◌}
use mathlib.Core.Bool.{Bool, true, false}
use native.Mathlib.Omega.{arith}
use lib.ListN.{length, drop}
use lib.Dec.{eqb}
use Rattle.numbers.specs.Field.{when}
use Rattle.numbers.proofs.Chain.{by-true, by-false, is_eq, is_ne}
use Rattle.samples.specs.Lists.{held}
use Rattle.samples.specs.declared.Sample.{Sample}
use Rattle.samples.proofs.Fits.{number-held}
use Rattle.samples.proofs.Views.{Stuck}
use Rattle.lists.proofs.Laws.{Walk, begins, goes_on, held_none, held-stuck}
use Rattle.verdicts.specs.Findings.{Answer, passes, found, first_found, claim, asked}
use Rattle.verdicts.specs.Audit.{lasting, passed_in}
use Rattle.verdicts.specs.declared.Finding.{Finding}
use Rattle.runs.specs.declared.Run.{Run}
use Rattle.fragments.specs.Samples.{samples_of_runs}
use Rattle.runlookup.proofs.Stuck.{next-drop}
use Rattle.runlookup.proofs.Numbers.{numbers-from-1}
use Rattle.passes.specs.Passed.{tell, passed_of, of_sample}
use Rattle.passes.specs.declared.Passed.{Passed}
use Rattle.passes.specs.declared.Passed.TheVariants as passed
use Rattle.passes.proofs.Pass.{empty, not-empty, idle, not-idle, pass-not, pass-by}
use Rattle.runpasses.specs.Walk.{after_sample, told_of}

-- WHAT ONE SAMPLE ADDS

-- one law for each return
pub stays-found : (a : Option Finding) (x : Finding) (t : ℕ) (b : Bool) (k n z : ℕ) → a ≡ Some x → Some x ≡ after_sample a t b k n z
unfolding after_sample
stays-found a x t b k n z e = sym (ap (λ (y : Option Finding). after_sample y t b k n z) e)

module _ (a : Option Finding) (t : ℕ) (b : Bool) (k n z : ℕ) (e : a ≡ None) where
  passes_then : after_sample None t b k n z ≡ after_sample a t b k n z
  passes_then = sym (ap (λ (y : Option Finding). after_sample y t b k n z) e)

  pub finds-idle : (x : Finding) → b ≡ true → x ≡ of_sample 3 t k → Some x ≡ after_sample a t b k n z
  unfolding after_sample
  finds-idle x h q = by-true _ _ _ b h (ap Some q) ∙ passes_then

  pub finds-empty : (x : Finding) → b ≡ false → z ≡ 0 → x ≡ of_sample 2 t n → Some x ≡ after_sample a t b k n z
  unfolding after_sample
  finds-empty x h y q = by-false _ _ _ b h (is_eq _ _ _ z 0 y (ap Some q)) ∙ passes_then

  pub finds-none : b ≡ false → (z ≡ 0 → ⊥) → None ≡ after_sample a t b k n z
  unfolding after_sample
  finds-none h y = by-false _ _ _ b h (is_ne _ _ _ z 0 y refl) ∙ passes_then

-- THE WALK

-- what is found in all, where so much is found before the samples left, and the one before them has the number i
abbrev pub ahead : Option Finding → ℕ → Bool → ℕ → List Sample → Option Finding
ahead (Some x) t b i l = Some x
ahead None t b i [] = None
ahead None t b i (s ∷ l) = when b (Some (of_sample 3 t i)) (asked (first_found (passed_in t (s ∷ l))))

ahead-starts : (t i : ℕ) (l : List Sample) → ahead None t false i l ≡ asked (first_found (passed_in t l))
unfolding when
ahead-starts t i [] = refl
ahead-starts t i (s ∷ l) = refl

ahead-ends : (a : Option Finding) (t : ℕ) (b : Bool) (i : ℕ) → ahead a t b i [] ≡ a
ahead-ends (Some x) t b i = refl
ahead-ends None t b i = refl

-- a sample that is not empty: whether it lasts is asked once another follows
not-empty-on : (t i : ℕ) (s : Sample) (m : List Sample) → eqb s.size 0 ≡ false → s.number ≡ i + 1
    → ahead None t (eqb s.duration 0) (i + 1) m ≡ asked (first_found (passed_in t (s ∷ m)))
not-empty-on t i s [] e n = sym (ap asked (not-empty t s [] e))
not-empty-on t i s (u ∷ m) e n = sym (ap asked (not-empty t s (lasting (claim t s) ∷ passed_in t (u ∷ m)) e) ∙ cases (eqb s.duration 0) refl)
  where
    cases : (b : Bool) → eqb s.duration 0 ≡ b → asked (first_found (lasting (claim t s) ∷ passed_in t (u ∷ m))) ≡ ahead None t b (i + 1) (u ∷ m)
    cases true q =
        ap asked (idle t s (passed_in t (u ∷ m)) q) ∙ ap (λ (k : ℕ). Some (of_sample 3 t k)) n
        ∙ by-true _ _ _ true refl refl
    cases false q = ap asked (not-idle t s (passed_in t (u ∷ m)) q) ∙ by-false _ _ _ false refl refl

first-empty : (t : ℕ) (s : Sample) (m : List Sample) → eqb s.size 0 ≡ true → asked (first_found (passed_in t (s ∷ m))) ≡ Some (of_sample 2 t s.number)
first-empty t s [] e = ap asked (empty t s [] e)
first-empty t s (u ∷ m) e = ap asked (empty t s (lasting (claim t s) ∷ passed_in t (u ∷ m)) e)

ahead-on : (a : Option Finding) (t : ℕ) (b : Bool) (i : ℕ) (s : Sample) (m : List Sample) → s.number ≡ i + 1
    → ahead (after_sample a t b i s.number s.size) t (eqb s.duration 0) (i + 1) m ≡ ahead a t b i (s ∷ m)
unfolding after_sample when
ahead-on (Some x) t b i s m n = refl
ahead-on None t true i s m n = refl
ahead-on None t false i s m n = cases (eqb s.size 0) refl
  where
    cases : (z : Bool) → eqb s.size 0 ≡ z
        → ahead (when z (Some (of_sample 2 t s.number)) None) t (eqb s.duration 0) (i + 1) m ≡ asked (first_found (passed_in t (s ∷ m)))
    cases true e = sym (first-empty t s m e)
    cases false e = not-empty-on t i s m e n

told-tell : (n : ℕ) (a : Answer) → told_of n (asked a) ≡ tell n a
told-tell n passes = refl
told-tell n (found x) = refl

-- i of all samples are done, and l is left
pub record Passing (t : ℕ) (all l : List Sample) (a : Option Finding) (b : Bool) (i : ℕ) : Type 0 where
  pub walk : Walk all l i
  pub behind : l ≡ drop i all
  pub then : ahead a t b i l ≡ asked (first_found (passed_in t all))

pub pass-begins : (t : ℕ) (all l : List Sample) → l ≡ all → Passing t all l None false 0
pass-begins t all l e = record { walk = begins all l e; behind = e; then = ap (ahead None t false 0) e ∙ ahead-starts t 0 all }

module _ (t : ℕ) (all l : List Sample) (a : Option Finding) (b : Bool) (i : ℕ) (w : Passing t all l a b i) where
  pub pass-end : (r : Passed) → r ≡ told_of i a → l ≡ [] → r ≡ passed_of t all
  pass-end r er e =
      let q : a ≡ asked (first_found (passed_in t all)) = sym (ahead-ends a t b i) ∙ sym (ap (ahead a t b i) e) ∙ w.then in
      er ∙ ap (told_of i) q ∙ told-tell i (first_found (passed_in t all))
      ∙ pass-by t all i (first_found (passed_in t all)) (sym w.walk.fit ∙ held_none l e, omega (arith, w.walk.many, ap length e)) refl

  pub pass-stuck : Stuck l → passed.Over ≡ passed_of t all
  pass-stuck e = pass-not t all (sym w.walk.fit ∙ held-stuck l e)

module _ (f : List ℕ) (rs : List Run) (t : ℕ) (l : List Sample) (a : Option Finding) (b : Bool) (i : ℕ) (w : Passing t (samples_of_runs f rs t) l a b i) (s : Sample) (m : List Sample) (e : (l ≡ s ∷ m) × (held s ≡ true)) where
  abbrev all : List Sample
  all = samples_of_runs f rs t

  numbered : s.number ≡ i + 1
  numbered = numbers-from-1 f t rs i s m (sym w.behind ∙ e.0)

  pub few : i + 1 < 2 ^ 32
  few = omega (arith, number-held s e.1, numbered)

  pub fewer : length m < length l
  fewer = omega (arith, ap (λ (x : List Sample). length x) e.0)

  pub passing-on : (c : Option Finding) → c ≡ after_sample a t b i s.number s.size → Passing t all m c (eqb s.duration 0) (i + 1)
  passing-on c q =
      record {
        walk = goes_on all l i w.walk s m e;
        behind = sym (next-drop i all s m (sym w.behind ∙ e.0));
        then = ap (λ (y : Option Finding). ahead y t (eqb s.duration 0) (i + 1) m) q ∙ ahead-on a t b i s m numbered ∙ sym (ap (ahead a t b i) e.0) ∙ w.then;
      }
