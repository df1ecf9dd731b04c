-- In a run a sample behind one that does not fit does not fit either: numbers, ends and times rise. Assumes nothing.
use Prim.Native.Nat.{ℕ, zero, suc, ◌+◌, ◌^◌, ◌≤◌, ◌<◌}
use mathlib.Core.Path.{◌≡◌, refl, sym, ap, ◌∙◌}
use mathlib.Core.List.{List, [], ◌∷◌}
use mathlib.Core.Bool.{Bool, true, false, ◌&&◌}
use native.Mathlib.Omega.{arith}
use lib.ListN.{length, drop, length-drop, drop_of_length-le}
use lib.Dec.{ltb}
use borrow.Author.Tests.{ltb-false}
use Rattle.samples.specs.Lists.{held, none, over, view}
use Rattle.samples.proofs.Fits.{no_number, no_end, no-time, view-held, view-not}
use Rattle.samples.specs.declared.Sample.{Sample}
use Rattle.runs.specs.Values.{duration_at, size_at}
use Rattle.runs.specs.Samples.{sample_at, samples_from, run_samples}
use Rattle.runs.specs.declared.Run.{Run}
use Rattle.runs.specs.declared.Lane.{Lane}
use Rattle.runs.specs.declared.Taken.{Taken}
use Rattle.runs.proofs.Left.{left-begun, how-many}
use Rattle.runs.specs.Lane as run
use Rattle.runs.specs.declared.Taken.TheVariants as taken
use Rattle.runs.proofs.Views as views

-- from here on no sample fits: n came before, the next begins at that place and time
data Past (n at time : ℕ) : Type 0 where
  numbers : 2 ^ 32 ≤ n → Past n at time
  places : 2 ^ 64 ≤ at → Past n at time
  times : 2 ^ 63 ≤ time → Past n at time

-- by which of three tests it failed
failed : {n at time : ℕ} (a b c : Bool) → (a ≡ false → Past n at time) → (b ≡ false → Past n at time) → (c ≡ false → Past n at time) → (a && (b && c)) ≡ false → Past n at time
failed false b c f g h e = f refl
failed true false c f g h e = g refl
failed true true false f g h e = h refl
failed true true true f g h e = let z : ◌≡◌ {A = ℕ} 0 1 = cc in absurd (omega arith)

-- the list behind its first
pub next-drop : (j : ℕ) (l : List Sample) (s : Sample) (k : List Sample) → drop j l ≡ s ∷ k → drop (j + 1) l ≡ k
next-drop zero [] s k e = let z : ◌≡◌ {A = ℕ} 0 1 = cc in absurd (omega arith)
next-drop zero (x ∷ l) s k e = cc
next-drop (suc j) [] s k e = let z : ◌≡◌ {A = ℕ} 0 1 = cc in absurd (omega arith)
next-drop (suc j) (x ∷ l) s k e = let q : suc j + 1 ≡ suc (j + 1) = omega arith in ap (λ (n : ℕ). drop n (x ∷ l)) q ∙ next-drop j l s k e

module _ (f : List ℕ) (r : Run) where
  past_first : (i n at time : ℕ) → Past n at time → held (sample_at f r i (n + 1) at time) ≡ false
  unfolding sample_at
  past_first i n at time (numbers h) =
      let k : 2 ^ 32 ≤ n + 1 = omega (arith, h) in no_number (sample_at f r i (n + 1) at time) k
  past_first i n at time (places h) =
      let k : 2 ^ 64 ≤ at + size_at f r i = omega (arith, h) in no_end (sample_at f r i (n + 1) at time) k
  past_first i n at time (times h) = no-time (sample_at f r i (n + 1) at time) h

  past-on : (i n at time : ℕ) → Past n at time → Past (n + 1) (at + size_at f r i) (time + duration_at f r i)
  past-on i n at time (numbers h) = numbers (omega (arith, h))
  past-on i n at time (places h) = places (omega (arith, h))
  past-on i n at time (times h) = times (omega (arith, h))

  unfit-past : (i n at time : ℕ) → held (sample_at f r i (n + 1) at time) ≡ false → Past (n + 1) (at + size_at f r i) (time + duration_at f r i)
  unfolding sample_at
  unfit-past i n at time e =
      failed (ltb (n + 1) (2 ^ 32)) (ltb (at + size_at f r i) (2 ^ 64)) (ltb time (2 ^ 63))
      (λ q. numbers (ltb-false (n + 1) (2 ^ 32) q))
      (λ q. places (ltb-false (at + size_at f r i) (2 ^ 64) q))
      (λ q. times (omega (arith, ltb-false time (2 ^ 63) q))) e

  past-over : (m k i n at time : ℕ) → m < k → Past n at time → over ≡ view (drop m (samples_from f r k i n at time))
  past-over m zero i n at time h p = absurd (omega arith)
  past-over zero (suc k) i n at time h p =
      sym (view-not (sample_at f r i (n + 1) at time) (samples_from f r k (i + 1) (n + 1) (at + size_at f r i) (time + duration_at f r i)) (past_first i n at time p))
  past-over (suc m) (suc k) i n at time h p =
      past-over m k (i + 1) (n + 1) (at + size_at f r i) (time + duration_at f r i) (omega arith) (past-on i n at time p)

  stuck-from : (j m k i n at time : ℕ) → j ≤ m → m < k → over ≡ view (drop j (samples_from f r k i n at time)) → over ≡ view (drop m (samples_from f r k i n at time))
  stuck-from j m zero i n at time g h e = absurd (omega arith)
  stuck-from zero zero (suc k) i n at time g h e = e
  stuck-from zero (suc m) (suc k) i n at time g h e =
      past-over m k (i + 1) (n + 1) (at + size_at f r i) (time + duration_at f r i) (omega arith) (unfit-past i n at time (unfit (held (sample_at f r i (n + 1) at time)) refl))
    where
      unfit : (b : Bool) → held (sample_at f r i (n + 1) at time) ≡ b → held (sample_at f r i (n + 1) at time) ≡ false
      unfit false q = q
      unfit true q =
          let v = e ∙ view-held (sample_at f r i (n + 1) at time) (samples_from f r k (i + 1) (n + 1) (at + size_at f r i) (time + duration_at f r i)) q in
          let z : ◌≡◌ {A = ℕ} 0 1 = cc in
          absurd (omega arith)
  stuck-from (suc j) zero (suc k) i n at time g h e = absurd (omega arith)
  stuck-from (suc j) (suc m) (suc k) i n at time g h e =
      stuck-from j m k (i + 1) (n + 1) (at + size_at f r i) (time + duration_at f r i) (omega arith) (omega arith) e

  number-from : (m k i n at time : ℕ) (s : Sample) (l : List Sample) → drop m (samples_from f r k i n at time) ≡ s ∷ l → s.number ≡ n + m + 1
  unfolding sample_at
  number-from m zero i n at time s l e = let q : length (drop m (samples_from f r zero i n at time)) ≡ suc (length l) = ap (λ (x : List Sample). length x) e in absurd (omega (arith, q, length-drop m (samples_from f r zero i n at time)))
  number-from zero (suc k) i n at time s l e = let q : s.number ≡ n + 1 = cc in omega (arith, q)
  number-from (suc m) (suc k) i n at time s l e = omega (arith, number-from m k (i + 1) (n + 1) (at + size_at f r i) (time + duration_at f r i) s l e)

  -- THE WALK IN A RUN

  module _ (b : ℕ) where
    abbrev all : List Sample
    all = run_samples f r b

    pub stuck-on : (j m : ℕ) → j ≤ m → m < r.trun.sample_count → over ≡ view (drop j all) → over ≡ view (drop m all)
    unfolding run_samples
    stuck-on j m g h e = stuck-from j m r.trun.sample_count 0 b r.start r.time g h e

    pub number_at : (m : ℕ) (s : Sample) (l : List Sample) → drop m all ≡ s ∷ l → s.number ≡ b + m + 1
    unfolding run_samples
    number_at m s l e = number-from m r.trun.sample_count 0 b r.start r.time s l e

    pub past_end : (m : ℕ) → r.trun.sample_count ≤ m → none ≡ view (drop m all)
    past_end m h = sym (ap view (drop_of_length-le all {i = m} (omega (arith, how-many f r b))))

    pub walk_begins : (l : Lane) → l ≡ run.begun r b → run.left f r l ≡ drop 0 all
    walk_begins l e = ap (run.left f r) e ∙ left-begun f r b

    -- one answer of `next`, where j samples were passed and those up to m are to be
    module _ (l : Lane) (j m : ℕ) (inv : run.left f r l ≡ drop j all) (s : Taken) (es : run.shows f r s ≡ view (run.left f r l)) (h : j < m) (k : m < r.trun.sample_count) where
      pub walk-over : s ≡ taken.Over → over ≡ view (drop m all)
      walk-over e = stuck-on j m (omega arith) k (sym (ap (run.shows f r) e) ∙ es ∙ ap view inv)

      pub walk_end : s ≡ taken.End → none ≡ view (drop m all)
      walk_end e =
          let q : length (drop j all) ≡ 0 = ap (λ (x : List Sample). length x) (sym inv ∙ views.at-end f r l s es e) in
          absurd (omega (arith, q, length-drop j all, how-many f r b))

      pub walk-on : (x : Sample) (l' : Lane) → s ≡ taken.One x l' → run.left f r l' ≡ drop (j + 1) all
      walk-on x l' e = sym (next-drop j all x (run.left f r l') (sym inv ∙ (views.at_one f r l s es x l' e).0))
