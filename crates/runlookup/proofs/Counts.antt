-- Counts of samples and of bytes, row after row. Assumes nothing.
use Rattle.std.specs.Prelude.{Option, Some, None}
use Prim.Native.Nat.{ℕ, ◌+◌, ◌^◌, ◌≤◌, ◌<◌}
use mathlib.Core.Path.{◌≡◌, refl, sym, ap, ◌∙◌}
use mathlib.Core.List.{List, [], ◌∷◌, ◌++◌}
use mathlib.Core.Bool.{Bool, true, false}
use native.Mathlib.Omega.{arith}
use lib.Dec.{eqb, ltb}
use borrow.Author.Tests.{ltb-true, ltb-false}
use Rattle.numbers.proofs.Chain.{is_ne, is_lt, not-lt}
use Rattle.numbers.specs.Field.{when}
use Rattle.samples.specs.Lists.{bytes_of}
use Rattle.samples.specs.declared.Sample.{Sample}
use Rattle.runs.specs.Samples.{run_samples, bytes_in, end_by}
use Rattle.runs.proofs.Left.{bytes-are}
use Rattle.runs.specs.declared.Run.{Run}
use Rattle.fragments.specs.Samples.{count_of, mine, samples_after}
use Rattle.runlookup.specs.Lookup.{counted, bytes_of_run, bytes_of_runs}

-- a sum over rows: rs is what is left of them, n the sum up to there, m that of all
module _ (of : Run → ℕ) (all : List Run → ℕ) (nil : all [] ≡ 0) (cons : (r : Run) (rs : List Run) → all (r ∷ rs) ≡ of r + all rs) (n m : ℕ) (rs : List Run) (inv : n + all rs ≡ m) where
  pub sum-all : rs ≡ [] → n < 2 ^ 64 → Some n ≡ counted m
  sum-all e h =
      let z : all rs ≡ 0 = ap all e ∙ nil in
      let q : n ≡ m = omega (arith, z) in
      is_lt _ _ (Some n) m (2 ^ 64) (omega (arith, z)) (ap Some q)

  module _ (r : Run) (rest : List Run) (e : rs ≡ r ∷ rest) (k : ℕ) (ek : k ≡ of r) where
    pub sum-on : n + k + all rest ≡ m
    sum-on = let z : all rs ≡ of r + all rest = ap all e ∙ cons r rest in omega (arith, z)

    pub sum_over : 2 ^ 64 ≤ n + k → None ≡ counted m
    sum_over h = not-lt (Some m) _ None m (2 ^ 64) (omega (arith, sum-on)) refl

-- BYTES

bytes-append : (l k : List Sample) → bytes_of (l ++ k) ≡ bytes_of l + bytes_of k
bytes-append [] k = omega arith
bytes-append (s ∷ l) k = omega (arith, bytes-append l k)

bytes-mine : (f : List ℕ) (t n : ℕ) (r : Run) → bytes_of (mine f t r n) ≡ bytes_of_run f t r
unfolding mine bytes_of_run when
bytes-mine f t n r = cases (eqb r.track t)
  where
    cases : (b : Bool) → bytes_of (when b (run_samples f r n) []) ≡ when b (bytes_in f r) 0
    cases true = bytes-are f r n
    cases false = refl

pub bytes-of-samples : (f : List ℕ) (t n : ℕ) (rs : List Run) → bytes_of (samples_after f t n rs) ≡ bytes_of_runs f t rs
bytes-of-samples f t n [] = refl
bytes-of-samples f t n (r ∷ rs) =
    omega (arith, bytes-append (mine f t r n) (samples_after f t (n + count_of t r) rs), bytes-mine f t n r, bytes-of-samples f t (n + count_of t r) rs)

-- what an end tells of the sum that it stands for
module _ (n : ℕ) (d : Option ℕ) (e : d ≡ end_by n) where
  pub end-at : (k : ℕ) → d ≡ Some k → (k ≡ n) × (n < 2 ^ 64)
  unfolding when
  end-at k g = cases (ltb n (2 ^ 64)) refl e
    where
      cases : (b : Bool) → ltb n (2 ^ 64) ≡ b → d ≡ when b (Some n) None → (k ≡ n) × (n < 2 ^ 64)
      cases true h c = (cc, ltb-true n (2 ^ 64) h)
      cases false h c = let z : ◌≡◌ {A = ℕ} 0 1 = cc in absurd (omega arith)

  pub end-over : d ≡ None → 2 ^ 64 ≤ n
  unfolding when
  end-over g = cases (ltb n (2 ^ 64)) refl e
    where
      cases : (b : Bool) → ltb n (2 ^ 64) ≡ b → d ≡ when b (Some n) None → 2 ^ 64 ≤ n
      cases true h c = let z : ◌≡◌ {A = ℕ} 0 1 = cc in absurd (omega arith)
      cases false h c = ltb-false n (2 ^ 64) h

-- a run of another track
pub nothing-added : (f : List ℕ) (t n : ℕ) (r : Run) → (r.track ≡ t → ⊥) → n < 2 ^ 64 → Some n ≡ end_by (n + bytes_of_run f t r)
unfolding bytes_of_run
nothing-added f t n r h k =
    let z : when (eqb r.track t) (bytes_in f r) 0 ≡ 0 = sym (is_ne (bytes_in f r) 0 0 r.track t h refl) in
    let q : n + when (eqb r.track t) (bytes_in f r) 0 ≡ n = omega (arith, z) in
    is_lt (Some n) None (Some n) n (2 ^ 64) k refl ∙ ap end_by (sym q)

-- a sum that goes on by an end
pub sum-further : (of : Run → ℕ) (all : List Run → ℕ) → all [] ≡ 0 → ((r : Run) (rs : List Run) → all (r ∷ rs) ≡ of r + all rs) → (n m : ℕ) (rs : List Run) → n + all rs ≡ m
    → (r : Run) (rest : List Run) → rs ≡ r ∷ rest → (d : Option ℕ) → d ≡ end_by (n + of r) → (k : ℕ) → d ≡ Some k → (k + all rest ≡ m) × (k < 2 ^ 64)
sum-further of all nil cons n m rs inv r rest e d ed k g =
    let w = end-at (n + of r) d ed k g in
    (omega (arith, w.0, sum-on of all nil cons n m rs inv r rest e (of r) refl), omega (arith, w.0, w.1))
