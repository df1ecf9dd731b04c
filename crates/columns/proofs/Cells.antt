-- A column cell by cell. Assumes nothing.
use Prim.Native.Nat.{ℕ, zero, suc, ◌+◌, ◌-◌, ◌*◌, ◌/◌, ◌%◌, ◌^◌, ◌≤◌, ◌<◌}
use mathlib.Core.Path.{◌≡◌, refl, sym, ap, ap₂, ◌∙◌}
use mathlib.Core.List.{List, [], ◌∷◌}
use mathlib.Core.Bool.{Bool, true, false, ◌&&◌}
use native.Mathlib.Nat.{mod-eq_of_lt}
use native.Mathlib.Omega.{arith}
use lib.ListN.{length, get_or, drop}
use lib.Dec.{eqb, leb, ltb}
use borrow.Author.Tests.{ltb-true, leb-true, leb-false, le-leb, lt-leb}
use Rattle.numbers.specs.Field.{when}
use Rattle.numbers.proofs.Chain.{is_lt, not-lt}
use Rattle.tables.specs.Tables.{list_from, listed}
use Rattle.tables.proofs.Lists.{list-cons, list-nil}
use Rattle.columns.specs.declared.Rule.{Rule}
use Rattle.columns.specs.declared.Rule.TheVariants.{Zero, Narrow, Signed}
use Rattle.columns.specs.Columns.{cell_of, column_of, low_at, lows_of, meets, all_meet}

pub has-is : (rs : List ℕ) (n : ℕ) → leb n (length rs / 7) ≡ leb (n * 7) (length rs)
has-is rs n = cases (leb n (length rs / 7)) refl
  where
    cases : (b : Bool) → leb n (length rs / 7) ≡ b → leb n (length rs / 7) ≡ leb (n * 7) (length rs)
    cases true e = let h : n ≤ length rs / 7 = leb-true n (length rs / 7) e in e ∙ sym (le-leb (n * 7) (length rs) (omega arith))
    cases false e = let h : length rs / 7 < n = leb-false n (length rs / 7) e in e ∙ sym (lt-leb (n * 7) (length rs) (omega arith))

module _ (rs : List ℕ) (k i : ℕ) where
  pub no-column : 7 ≤ k → 0 ≡ cell_of rs k i
  unfolding cell_of
  no-column h = not-lt _ _ _ k 7 h refl

  pub no_record : k < 7 → length rs / 7 ≤ i → 0 ≡ cell_of rs k i
  unfolding cell_of
  no_record h g = is_lt _ _ _ k 7 h (not-lt _ _ _ i (length rs / 7) g refl)

  pub cell-is : k < 7 → i < length rs / 7 → get_or rs (i * 7 + k) 0 ≡ cell_of rs k i
  unfolding cell_of
  cell-is h g = is_lt _ _ _ k 7 h (is_lt _ _ _ i (length rs / 7) g refl)

-- RULES

module _ (rule : Rule) (x : ℕ) where
  pub by_zero : rule ≡ Zero → eqb x 0 ≡ meets rule x
  unfolding meets
  by_zero e = sym (ap (λ r. meets r x) e)

  pub by-narrow : rule ≡ Narrow → ltb x (2 ^ 32) ≡ meets rule x
  unfolding meets
  by-narrow e = sym (ap (λ r. meets r x) e)

  pub by-positive : rule ≡ Signed → x < 2 ^ 31 → true ≡ meets rule x
  unfolding meets
  by-positive e h = is_lt true (leb (2 ^ 64 - 2 ^ 31) x) true x (2 ^ 31) h refl ∙ sym (ap (λ r. meets r x) e)

  pub by-negative : rule ≡ Signed → 2 ^ 31 ≤ x → leb (2 ^ 64 - 2 ^ 31) x ≡ meets rule x
  unfolding meets
  by-negative e h = not-lt true (leb (2 ^ 64 - 2 ^ 31) x) (leb (2 ^ 64 - 2 ^ 31) x) x (2 ^ 31) h refl ∙ sym (ap (λ r. meets r x) e)

module _ (rule : Rule) (rs : List ℕ) (n k i : ℕ) where
  pub all_end : n ≤ i → true ≡ all_meet rule (drop i (column_of rs n k))
  all_end h = sym (ap (all_meet rule) (list-nil (cell_of rs k) n i h))

  module _ (x : ℕ) (h : i < n) (e : x ≡ cell_of rs k i) where
    split : all_meet rule (drop i (column_of rs n k)) ≡ meets rule x && all_meet rule (drop (i + 1) (column_of rs n k))
    split =
        ap (all_meet rule) (list-cons (cell_of rs k) n i h) ∙ ap (λ (y : ℕ). meets rule y && all_meet rule (drop (i + 1) (column_of rs n k))) (sym e)

    pub all_more : meets rule x ≡ true → all_meet rule (drop (i + 1) (column_of rs n k)) ≡ all_meet rule (drop i (column_of rs n k))
    all_more t = sym (split ∙ ap (λ (b : Bool). b && all_meet rule (drop (i + 1) (column_of rs n k))) t)

    pub all-stop : meets rule x ≡ false → false ≡ all_meet rule (drop i (column_of rs n k))
    all-stop t = sym (split ∙ ap (λ (b : Bool). b && all_meet rule (drop (i + 1) (column_of rs n k))) t)

-- where every number has 32 bits, these are the numbers
narrow-from : (rs : List ℕ) (k n i : ℕ) → all_meet Narrow (list_from (cell_of rs k) n i) ≡ true → list_from (low_at rs k) n i ≡ list_from (cell_of rs k) n i
unfolding meets low_at
narrow-from rs k zero i e = refl
narrow-from rs k (suc n) i e = cases (ltb (cell_of rs k i) (2 ^ 32)) refl e (narrow-from rs k n (suc i))
  where
    cases : (b : Bool) → ltb (cell_of rs k i) (2 ^ 32) ≡ b → (b && all_meet Narrow (list_from (cell_of rs k) n (suc i))) ≡ true
        → (all_meet Narrow (list_from (cell_of rs k) n (suc i)) ≡ true → list_from (low_at rs k) n (suc i) ≡ list_from (cell_of rs k) n (suc i))
        → cell_of rs k i % 2 ^ 32 ∷ list_from (low_at rs k) n (suc i) ≡ cell_of rs k i ∷ list_from (cell_of rs k) n (suc i)
    cases true q h f = ap₂ (λ (a : ℕ) (l : List ℕ). a ∷ l) (mod-eq_of_lt (ltb-true (cell_of rs k i) (2 ^ 32) q)) (f h)
    cases false q h f = let z : ◌≡◌ {A = ℕ} 0 1 = cc in absurd (omega arith)

pub narrow-lows : (rs : List ℕ) (n k : ℕ) → all_meet Narrow (column_of rs n k) ≡ true → lows_of rs n k ≡ column_of rs n k
narrow-lows rs n k e = narrow-from rs k n 0 e
