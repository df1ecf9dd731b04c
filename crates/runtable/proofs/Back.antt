-- What was stored reads back the same, and the other rows stay. Assumes nothing.
use Prim.Native.Nat.{ℕ, zero, suc, ◌+◌, ◌*◌, ◌^◌, ◌≤◌, ◌<◌}
use mathlib.Core.Path.{◌≡◌, refl, ap, ◌∙◌}
use mathlib.Core.List.{List, [], ◌∷◌}
use mathlib.Core.Bool.{Bool, true, false}
use native.Mathlib.Omega.{arith}
use native.Mathlib.Nat.{mod-eq_of_lt}
use lib.ListN.{length, get_or, set, length-set}
use lib.Dec.{ltb}
use lib.Seq.{sets, get_or-set_same, get_or-set_other}
use borrow.Author.Tests.{ltb-true, ltb-false}
use Rattle.runs.specs.declared.Run.{Run}
use Rattle.runtable.specs.Table.{numbers_of, holds, cell, row_at}

-- STORES

below_stays : (vs t : List ℕ) (a j : ℕ) → j < a → get_or (sets t a vs) j 0 ≡ get_or t j 0
below_stays [] t a j h = refl
below_stays (v ∷ vs) t a j h = below_stays vs (set t a v) (suc a) j (omega arith) ∙ get_or-set_other t a j v 0 (λ e. omega (arith, e))

behind-stays : (vs t : List ℕ) (a j : ℕ) → a + length vs ≤ j → get_or (sets t a vs) j 0 ≡ get_or t j 0
behind-stays [] t a j h = refl
behind-stays (v ∷ vs) t a j h = behind-stays vs (set t a v) (suc a) j (omega arith) ∙ get_or-set_other t a j v 0 (λ e. omega (arith, e))

is-there : (vs t : List ℕ) (a k : ℕ) → k < length vs → a + length vs ≤ length t → get_or (sets t a vs) (a + k) 0 ≡ get_or vs k 0
is-there [] t a k h g = absurd (omega arith)
is-there (v ∷ vs) t a zero h g =
    let e : a + 0 ≡ a = omega arith in
    ap (λ (j : ℕ). get_or (sets (set t a v) (suc a) vs) j 0) e ∙ below_stays vs (set t a v) (suc a) a (omega arith) ∙ get_or-set_same t a v 0 (omega arith)
is-there (v ∷ vs) t a (suc k) h g =
    let e : a + suc k ≡ suc a + k = omega arith in
    ap (λ (j : ℕ). get_or (sets (set t a v) (suc a) vs) j 0) e ∙ is-there vs (set t a v) (suc a) k (omega arith) (omega (arith, length-set t a v))

-- ROWS

-- the numbers of a run have as many bits as its fields
pub record Fits (r : Run) : Type 0 where
  pub track : r.track < 2 ^ 32
  pub version : r.trun.version < 2 ^ 8
  pub set : r.trun.flags < 2 ^ 32
  pub count : r.trun.sample_count < 2 ^ 32
  pub offset : r.trun.data_offset < 2 ^ 32
  pub first : r.trun.first_sample_flags < 2 ^ 32
  pub duration : r.duration < 2 ^ 32
  pub size : r.size < 2 ^ 32
  pub flags : r.flags < 2 ^ 32

module _ (t : List ℕ) (i : ℕ) (r : Run) (h : i < holds t) where
  there : (k : ℕ) → k < 12 → cell (sets t (i * 12) (numbers_of r)) i k ≡ get_or (numbers_of r) k 0
  there k g = is-there (numbers_of r) t (i * 12) k g (omega arith)

  pub stored-reads-back : Fits r → row_at (sets t (i * 12) (numbers_of r)) i ≡ r
  unfolding row_at
  stored-reads-back w =
      rw (
        there 0 (omega arith),
        there 1 (omega arith),
        there 2 (omega arith),
        there 3 (omega arith),
        there 4 (omega arith),
        there 5 (omega arith),
        there 6 (omega arith),
        there 7 (omega arith),
        there 8 (omega arith),
        there 9 (omega arith),
        there 10 (omega arith),
        there 11 (omega arith),
        mod-eq_of_lt w.track,
        mod-eq_of_lt w.version,
        mod-eq_of_lt w.set,
        mod-eq_of_lt w.count,
        mod-eq_of_lt w.offset,
        mod-eq_of_lt w.first,
        mod-eq_of_lt w.duration,
        mod-eq_of_lt w.size,
        mod-eq_of_lt w.flags,
      )

module _ (t : List ℕ) (i j : ℕ) (r : Run) (h : j ≡ i → ⊥) where
  same : (k : ℕ) → k < 12 → cell (sets t (i * 12) (numbers_of r)) j k ≡ cell t j k
  same k g = cases (ltb j i) refl
    where
      cases : (b : Bool) → ltb j i ≡ b → cell (sets t (i * 12) (numbers_of r)) j k ≡ cell t j k
      cases true e = below_stays (numbers_of r) t (i * 12) (j * 12 + k) (omega (arith, ltb-true j i e))
      cases false e = behind-stays (numbers_of r) t (i * 12) (j * 12 + k) (omega (arith, ltb-false j i e, h))

  pub other-rows-stay : row_at (sets t (i * 12) (numbers_of r)) j ≡ row_at t j
  unfolding row_at
  other-rows-stay =
      rw (
        same 0 (omega arith),
        same 1 (omega arith),
        same 2 (omega arith),
        same 3 (omega arith),
        same 4 (omega arith),
        same 5 (omega arith),
        same 6 (omega arith),
        same 7 (omega arith),
        same 8 (omega arith),
        same 9 (omega arith),
        same 10 (omega arith),
        same 11 (omega arith),
      )
