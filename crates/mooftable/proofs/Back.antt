-- What was stored reads back the same, and the other rows stay. Assumes nothing.
use Prim.Native.Nat.{ℕ, suc, ◌+◌, ◌*◌, ◌^◌, ◌<◌}
use mathlib.Core.Path.{◌≡◌, ap, ◌∙◌}
use mathlib.Core.List.{List}
use native.Mathlib.Omega.{arith}
use native.Mathlib.Nat.{mod-eq_of_lt}
use lib.ListN.{length, get_or, set, length-set}
use lib.Seq.{sets, get_or-set_same, get_or-set_other}
use Rattle.mooftable.specs.declared.Moof.{Moof}
use Rattle.mooftable.specs.Table.{numbers_of, holds, cell, row_at}

-- the numbers of a moof have as many bits as its fields
pub record Fits (m : Moof) : Type 0 where
  pub number : m.number < 2 ^ 32

module _ (t : List ℕ) (a : ℕ) (m : Moof) where
  -- with the first number, and with the first two
  abbrev one : List ℕ
  one = set t a m.start

  abbrev two : List ℕ
  two = set one (suc a) m.number

  -- a place is not one of the three
  outside : (j : ℕ) → (j ≡ a → ⊥) → (j ≡ suc a → ⊥) → (j ≡ suc (suc a) → ⊥) → get_or (sets t a (numbers_of m)) j 0 ≡ get_or t j 0
  outside j h g k = get_or-set_other two (suc (suc a)) j m.runs 0 k ∙ get_or-set_other one (suc a) j m.number 0 g ∙ get_or-set_other t a j m.start 0 h

  module _ (h : a + 3 < suc (length t)) where
    long : length one ≡ length t
    long = length-set t a m.start

    longer : length two ≡ length t
    longer = length-set one (suc a) m.number ∙ long

    first : get_or (sets t a (numbers_of m)) a 0 ≡ m.start
    first =
        get_or-set_other two (suc (suc a)) a m.runs 0 (λ e. omega (arith, e)) ∙ get_or-set_other one (suc a) a m.number 0 (λ e. omega (arith, e))
        ∙ get_or-set_same t a m.start 0 (omega (arith, h))

    second : get_or (sets t a (numbers_of m)) (suc a) 0 ≡ m.number
    second =
        get_or-set_other two (suc (suc a)) (suc a) m.runs 0 (λ e. omega (arith, e)) ∙ get_or-set_same one (suc a) m.number 0 (omega (arith, h, long))

    third : get_or (sets t a (numbers_of m)) (suc (suc a)) 0 ≡ m.runs
    third = get_or-set_same two (suc (suc a)) m.runs 0 (omega (arith, h, longer))

module _ (t : List ℕ) (i : ℕ) (m : Moof) (h : i < holds t) where
  abbrev after : List ℕ
  after = sets t (i * 3) (numbers_of m)

  whole : i * 3 + 3 < suc (length t)
  whole = omega (arith, h)

  start-there : cell after i 0 ≡ m.start
  start-there = let e : i * 3 + 0 ≡ i * 3 = omega arith in ap (λ (j : ℕ). get_or after j 0) e ∙ first t (i * 3) m whole

  number-there : cell after i 1 ≡ m.number
  number-there = let e : i * 3 + 1 ≡ suc (i * 3) = omega arith in ap (λ (j : ℕ). get_or after j 0) e ∙ second t (i * 3) m whole

  runs-there : cell after i 2 ≡ m.runs
  runs-there = let e : i * 3 + 2 ≡ suc (suc (i * 3)) = omega arith in ap (λ (j : ℕ). get_or after j 0) e ∙ third t (i * 3) m whole

  pub stored-reads-back : Fits m → row_at (sets t (i * 3) (numbers_of m)) i ≡ m
  unfolding row_at
  stored-reads-back w = rw (start-there, number-there, runs-there, mod-eq_of_lt w.number)

module _ (t : List ℕ) (i j : ℕ) (m : Moof) (h : j ≡ i → ⊥) where
  same : (k : ℕ) → k < 3 → cell (sets t (i * 3) (numbers_of m)) j k ≡ cell t j k
  same k g = outside t (i * 3) m (j * 3 + k) (λ e. h (omega (arith, e, g))) (λ e. h (omega (arith, e, g))) (λ e. h (omega (arith, e, g)))

  pub other-rows-stay : row_at (sets t (i * 3) (numbers_of m)) j ≡ row_at t j
  unfolding row_at
  other-rows-stay = rw (same 0 (omega arith), same 1 (omega arith), same 2 (omega arith))
