-- Numbers before the first 0: of a list by numbers, and of runs of one value. Assumes nothing.
use Prim.Native.Nat.{ℕ, zero, suc, ◌+◌, ◌-◌, ◌*◌, ◌≤◌, ◌<◌}
use mathlib.Core.Path.{◌≡◌, refl, sym, ap, ◌∙◌}
use mathlib.Core.List.{List, [], ◌∷◌, ◌++◌}
use mathlib.Core.Bool.{Bool, true, false, ◌&&◌}
use native.Mathlib.Omega.{arith}
use lib.ListN.{take, drop, replicate}
use lib.Seq.{take-nil}
use lib.Dec.{ltb, eqb}
use borrow.Author.Tests.{eq-eqb, ne_eqb, lt-ltb}
use Rattle.numbers.specs.Field.{when, or_zero}
use Rattle.tables.specs.Tables.{list_from, listed, values_of, pair_at, pairs, size_at}
use Rattle.tables.specs.Rows.{pair_rows, row_by, row_at}
use Rattle.tables.specs.declared.Table.{Table}
use Rattle.tables.specs.declared.Rows.{Rows}
use Rattle.tables.specs.declared.Row.{Row}
use Rattle.tables.specs.declared.Sizes.{Sizes}
use Rattle.tables.proofs.Lists.{list-cons, list-nil}
use Rattle.tables.proofs.Cases.{size-common, size-listed}
use Rattle.seek.proofs.Sums.{take_past, take_in}
use Rattle.passes.specs.Passed.{before_zero}

module _ (x : ℕ) (l : List ℕ) where
  pub zero-first : eqb x 0 ≡ true → before_zero (x ∷ l) ≡ 0
  unfolding when
  zero-first e = ap (λ (b : Bool). when b 0 (suc (before_zero l))) e

  pub not_first : eqb x 0 ≡ false → before_zero (x ∷ l) ≡ suc (before_zero l)
  unfolding when
  not_first e = ap (λ (b : Bool). when b 0 (suc (before_zero l))) e

-- SIZES

-- all of a list by numbers, none of them 0
none-zero : (g : ℕ → ℕ) (n i : ℕ) → ((k : ℕ) → eqb (g k) 0 ≡ false) → n ≡ before_zero (list_from g n i)
none-zero g zero i h = refl
none-zero g (suc n) i h = ap suc (none-zero g n (suc i) h) ∙ sym (not_first (g i) (list_from g n (suc i)) (h i))

-- i of n sizes were no 0
abbrev pub Sized : List ℕ → Sizes → ℕ → ℕ → Type 0
Sized f t n i = (i ≤ n) × (i + before_zero (drop i (listed (size_at f t) n)) ≡ before_zero (listed (size_at f t) n))

module _ (f : List ℕ) (t : Sizes) (n : ℕ) where
  pub sized-common : (t.common ≡ 0 → ⊥) → n ≡ before_zero (listed (size_at f t) n)
  sized-common h = none-zero (size_at f t) n 0 (λ k. ap (λ (x : ℕ). eqb x 0) (sym (size-common f t k h)) ∙ ne_eqb t.common 0 h)

  pub sized-starts : Sized f t n 0
  sized-starts = (omega arith, omega arith)

  module _ (i : ℕ) (g : Sized f t n i) where
    pub sized-all : n ≤ i → n ≡ before_zero (listed (size_at f t) n)
    sized-all h = omega (arith, g.0, g.1, ap before_zero (list-nil (size_at f t) n i h))

    module _ (c : t.common ≡ 0) (h : i < n) (x : ℕ) (e : x ≡ or_zero 4 f (t.at + i * 4)) where
      next : drop i (listed (size_at f t) n) ≡ x ∷ drop (i + 1) (listed (size_at f t) n)
      next = list-cons (size_at f t) n i h ∙ ap (λ (y : ℕ). y ∷ drop (i + 1) (listed (size_at f t) n)) (sym (size-listed f t i x c e))

      pub sized-here : x ≡ 0 → i ≡ before_zero (listed (size_at f t) n)
      sized-here z = omega (arith, g.1, ap before_zero next ∙ zero-first x (drop (i + 1) (listed (size_at f t) n)) (eq-eqb x 0 z))

      pub sized_on : (x ≡ 0 → ⊥) → Sized f t n (i + 1)
      sized_on z = (omega arith, omega (arith, g.1, ap before_zero next ∙ not_first x (drop (i + 1) (listed (size_at f t) n)) (ne_eqb x 0 z)))

-- DURATIONS

-- a run that counts a sample, and of which each lasts no time
abbrev pub idles : ℕ → ℕ → Bool
idles c v = ltb 0 c && eqb v 0

run-zero : (k c v : ℕ) (l : List ℕ) → idles c v ≡ true → before_zero (take k (replicate c v ++ l)) ≡ 0
run-zero zero c v l e = refl
run-zero (suc k) zero v l e = let z : ◌≡◌ {A = ℕ} 0 1 = cc in absurd (omega arith)
run-zero (suc k) (suc c) v l e = cases (ltb 0 (suc c)) (eqb v 0) refl e
  where
    cases : (a b : Bool) → eqb v 0 ≡ b → a && b ≡ true → before_zero (v ∷ take k (replicate c v ++ l)) ≡ 0
    cases true true q e = zero-first v (take k (replicate c v ++ l)) q
    cases true false q e = let z : ◌≡◌ {A = ℕ} 0 1 = cc in absurd (omega arith)
    cases false b q e = let z : ◌≡◌ {A = ℕ} 0 1 = cc in absurd (omega arith)

-- of a run that does not idle and counts a sample, none is 0
lasting-value : (c v : ℕ) → 0 < c → idles c v ≡ false → eqb v 0 ≡ false
lasting-value c v h e = sym (ap (λ (b : Bool). b && eqb v 0) (lt-ltb 0 c h)) ∙ e

run-not : (c v : ℕ) (l : List ℕ) → eqb v 0 ≡ false → before_zero (replicate c v ++ l) ≡ c + before_zero l
run-not zero v l e = omega arith
run-not (suc c) v l e = omega (arith, not_first v (replicate c v ++ l) e, run-not c v l e)

run_past : (c v : ℕ) (l : List ℕ) → idles c v ≡ false → before_zero (replicate c v ++ l) ≡ c + before_zero l
run_past zero v l e = omega arith
run_past (suc c) v l e = run-not (suc c) v l (lasting-value (suc c) v (omega arith) e)

run_in : (k c v : ℕ) → k ≤ c → idles c v ≡ false → before_zero (replicate k v) ≡ k
run_in zero c v h e = refl
run_in (suc k) c v h e = again (suc k)
  where
    again : (n : ℕ) → before_zero (replicate n v) ≡ n
    again zero = refl
    again (suc n) = omega (arith, not_first v (replicate n v) (lasting-value c v (omega (arith, h)) e), again n)

-- n - to durations were no 0; of those from entry i on, `to` are left
pub record Lasting (f : List ℕ) (t : Table) (n i to : ℕ) : Type 0 where
  pub within : to ≤ n
  pub then : n - to + before_zero (take to (values_of (drop i (pairs f t)))) ≡ before_zero (take n (values_of (pairs f t)))

module _ (f : List ℕ) (t : Table) (n : ℕ) where
  pub lasting-starts : Lasting f t n 0 n
  lasting-starts = record { within = omega arith; then = omega arith }

  module _ (i to : ℕ) (g : Lasting f t n i to) where
    pub lasting-none : t.count ≤ i → n - to ≡ before_zero (take n (values_of (pairs f t)))
    lasting-none h =
        let w : take to (values_of (drop i (pairs f t))) ≡ [] = ap (λ (l : List Row). take to (values_of l)) (list-nil (pair_at f t.at) t.count i h) ∙ take-nil to in
        omega (arith, g.then, ap before_zero w)

    module _ (h : i < t.count) (w : Rows) (ew : w ≡ pair_rows t) (e : Row) (ee : e ≡ row_at f w i) where
      abbrev later : List ℕ
      later = values_of (drop (i + 1) (pairs f t))

      row : e ≡ pair_at f t.at i
      unfolding row_by
      row = ee ∙ ap (λ (x : Rows). row_at f x i) ew

      entry_next : values_of (drop i (pairs f t)) ≡ replicate e.count e.value ++ later
      entry_next =
          ap values_of (list-cons (pair_at f t.at) t.count i h)
          ∙ sym (ap (λ (r : Row). replicate r.count r.value ++ later) row)

      now-is : before_zero (take to (values_of (drop i (pairs f t)))) ≡ before_zero (take to (replicate e.count e.value ++ later))
      now-is = ap (λ (l : List ℕ). before_zero (take to l)) entry_next

      pub lasting-here : idles e.count e.value ≡ true → n - to ≡ before_zero (take n (values_of (pairs f t)))
      lasting-here z = omega (arith, g.then, now-is, run-zero to e.count e.value later z)

      pub lasting-all : idles e.count e.value ≡ false → to ≤ e.count → n ≡ before_zero (take n (values_of (pairs f t)))
      lasting-all z k =
          omega (arith, g.within, g.then, now-is, ap before_zero (take_in e.value later e.count to k), run_in to e.count e.value k z)

      pub lasting-on : idles e.count e.value ≡ false → e.count < to → Lasting f t n (i + 1) (to - e.count)
      lasting-on z k =
          record {
            within = omega (arith, g.within);
            then = omega (
              arith,
              g.within,
              g.then,
              k,
              now-is,
              ap before_zero (take_past e.value later e.count to (omega (arith, k))),
              run_past e.count e.value (take (to - e.count) later) z,
            );
          }
