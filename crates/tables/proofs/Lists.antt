-- Lists by number, from a place on; and the rows of stsc as runs of chunks. Assumes nothing.
use Prim.Native.Nat.{ℕ, zero, suc, ◌+◌, ◌-◌, ◌*◌, ◌≤◌, ◌<◌}
use mathlib.Core.Path.{◌≡◌, refl, sym, ap, ap₂, ◌∙◌}
use mathlib.Core.List.{List, [], ◌∷◌}
use native.Mathlib.Omega.{arith}
use native.Mathlib.Numerals.{add-one}
use native.Mathlib.Nat.{add-zero, zero-add}
use lib.ListN.{length, drop}
use borrow.Author.Tests.{lt-ltb, le-ltb}
use Rattle.numbers.specs.Field.{when}
use Rattle.tables.specs.Tables.{list_from, listed, pair_at, pairs, group_at, groups, chunk_runs}
use Rattle.tables.specs.Rows.{pair_rows, group_rows, end_at, row_by, row_at, rows_of}
use Rattle.tables.specs.declared.Table.{Table}
use Rattle.tables.specs.declared.Row.{Row}

module _ {A : Type 0} (g : ℕ → A) where
  from_cons : (i n k : ℕ) → i < n → drop i (list_from g n k) ≡ g (k + i) ∷ drop (suc i) (list_from g n k)
  from_cons zero zero k h = absurd (omega arith)
  from_cons zero (suc n) k h = ap (λ (j : ℕ). g j ∷ list_from g n (suc k)) (sym (add-zero k))
  from_cons (suc i) zero k h = absurd (omega arith)
  from_cons (suc i) (suc n) k h =
      let e : suc k + i ≡ k + suc i = omega arith in
      from_cons i n (suc k) (omega arith) ∙ ap (λ (j : ℕ). g j ∷ drop (suc i) (list_from g n (suc k))) e

  from-nil : (i n k : ℕ) → n ≤ i → drop i (list_from g n k) ≡ []
  from-nil zero zero k h = refl
  from-nil zero (suc n) k h = absurd (omega arith)
  from-nil (suc i) zero k h = refl
  from-nil (suc i) (suc n) k h = from-nil i n (suc k) (omega arith)

  -- one more of a list by numbers
  pub list-cons : (n i : ℕ) → i < n → drop i (listed g n) ≡ g i ∷ drop (i + 1) (listed g n)
  list-cons n i h = from_cons i n 0 h ∙ ap₂ (λ (a b : ℕ). g a ∷ drop b (listed g n)) (zero-add i) (sym (add-one i))

  pub list-nil : (n i : ℕ) → n ≤ i → drop i (listed g n) ≡ []
  list-nil n i h = from-nil i n 0 h

  pub length-list : (n i : ℕ) → length (list_from g n i) ≡ n
  length-list zero i = refl
  length-list (suc n) i = omega (arith, length-list n (suc i))

-- two lists by numbers are equal where their things are
pub list_same : {A : Type 0} (g h : ℕ → A) (n i : ℕ) → ((k : ℕ) → g k ≡ h k) → list_from g n i ≡ list_from h n i
list_same g h zero i e = refl
list_same {A} g h (suc n) i e = ap₂ (λ (a : A) (l : List A). a ∷ l) (e i) (list_same g h n (suc i) e)

-- ROWS

pub rows-pairs : (f : List ℕ) (t : Table) → rows_of f (pair_rows t) ≡ pairs f t
unfolding row_by
rows-pairs f t = list_same (row_at f (pair_rows t)) (pair_at f t.at) t.count 0 (λ k. refl)

module _ (f : List ℕ) (t : Table) (c : ℕ) where
  row-mid : (i : ℕ) → i + 1 < t.count
      → row_at f (group_rows t c) i ≡ record { count = (group_at f t.at (suc i)).first - (group_at f t.at i).first; value = (group_at f t.at i).per }
  unfolding row_by end_at group_at when
  row-mid i h =
      let e : t.at + (i * 12 + 12) ≡ t.at + suc i * 12 = omega arith in
      rw (lt-ltb (i + 1) t.count h, e)

  row_last : (i : ℕ) → t.count ≤ i + 1
      → row_at f (group_rows t c) i ≡ record { count = c + 1 - (group_at f t.at i).first; value = (group_at f t.at i).per }
  unfolding row_by end_at group_at when
  row_last i h = rw (le-ltb (i + 1) t.count h)

  rows-from : (n i : ℕ) → i + n ≡ t.count → list_from (row_at f (group_rows t c)) n i ≡ chunk_runs c (list_from (group_at f t.at) n i)
  rows-from zero i h = refl
  rows-from (suc zero) i h = ap (λ (r : Row). r ∷ []) (row_last i (omega arith))
  rows-from (suc (suc n)) i h =
      ap₂ (λ (r : Row) (l : List Row). r ∷ l) (row-mid i (omega arith)) (rows-from (suc n) (suc i) (omega arith))

  pub rows-groups : rows_of f (group_rows t c) ≡ groups f t c
  rows-groups = rows-from t.count 0 (omega arith)
