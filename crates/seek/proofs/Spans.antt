-- The sizes between two samples, as the numbers of a part of the file. Assumes nothing.
use Rattle.std.specs.Prelude.{Result, Ok, Err}
use Prim.Native.Nat.{ℕ, zero, suc, ◌+◌, ◌-◌, ◌*◌, ◌/◌, ◌^◌, ◌≤◌, ◌<◌, min}
use mathlib.Core.Path.{◌≡◌, refl, sym, ap, ap₂, ◌∙◌}
use mathlib.Core.List.{List}
use native.Mathlib.Omega.{arith}
use native.Mathlib.Nat.{zero-add}
use lib.ListN.{length, take, drop, length-take, length-drop}
use lib.Seq.{get_or-take}
use Rattle.numbers.specs.Number.{be}
use Rattle.numbers.specs.Field.{field, or_zero}
use Rattle.numbers.specs.declared.Refusal.{Refusal}
use Rattle.numbers.proofs.Chain.{by-result, there, lacks, whole, ends}
use Rattle.words.proofs.Words.{be-drop}
use Rattle.tables.specs.Tables.{list_from, sum, size_at}
use Rattle.tables.specs.declared.Sizes.{Sizes}
use Rattle.tables.proofs.Cases.{size-listed}
use Rattle.seek.specs.Seek.{span_of, word_of, words_sum}

-- SUMS BY NUMBERS

pub sum_first : (g : ℕ → ℕ) (n i k : ℕ) → k < n → g i + sum (list_from g (n - k - 1) (i + 1)) ≡ sum (list_from g (n - k) i)
sum_first g n i k h =
    let e : n - k ≡ suc (n - k - 1) = omega arith in
    let f : i + 1 ≡ suc i = omega arith in
    ap (λ (x : ℕ). g i + sum (list_from g (n - k - 1) x)) f ∙ sym (ap (λ (x : ℕ). sum (list_from g x i)) e)

sum-zero : (g : ℕ → ℕ) (n i : ℕ) → ((j : ℕ) → i ≤ j → j < i + n → 0 ≡ g j) → 0 ≡ sum (list_from g n i)
sum-zero g zero i h = refl
sum-zero g (suc n) i h = omega (arith, h i (omega arith) (omega arith), sum-zero g n (suc i) (λ j k l. h j (omega arith) (omega arith)))

-- the first m alike, and nothing behind them
sum-part : (g h : ℕ → ℕ) (n m i k : ℕ) → m ≤ n → ((j : ℕ) → j < k + m → k ≤ j → h j ≡ g (i + (j - k))) → ((j : ℕ) → i + m ≤ j → j < i + n → 0 ≡ g j)
    → sum (list_from h m k) ≡ sum (list_from g n i)
sum-part g h n zero i k l e z = sum-zero g n i (λ j q r. z j (omega arith) r)
sum-part g h zero (suc m) i k l e z = absurd (omega arith)
sum-part g h (suc n) (suc m) i k l e z =
    let a : i + (k - k) ≡ i = omega arith in
    let b : h k ≡ g i = e k (omega arith) (omega arith) ∙ ap g a in
    let c : sum (list_from h m (suc k)) ≡ sum (list_from g n (suc i)) =
    sum-part g h n m (suc i) (suc k) (omega arith)
    (λ j q r. let d : i + (j - k) ≡ suc i + (j - suc k) = omega arith in e j (omega arith) (omega arith) ∙ ap g d)
    (λ j q r. z j (omega arith) (omega arith)) in
    omega (arith, b, c)

-- NUMBERS IN A PART

be-take : (w n : ℕ) (b : List ℕ) (at : ℕ) → at + w ≤ n → be w (take n b) at ≡ be w b at
unfolding be
be-take zero n b at h = refl
be-take (suc w) n b at h = ap₂ (λ (x y : ℕ). x * 256 ^ w + y) (get_or-take n b at 0 (omega arith)) (be-take w n b (suc at) (omega arith))

module _ (f : List ℕ) (t : Sizes) (common : t.common ≡ 0) (from to : ℕ) where
  sized : (i : ℕ) → or_zero 4 f (t.at + i * 4) ≡ size_at f t i
  sized i = size-listed f t i (or_zero 4 f (t.at + i * 4)) common refl

  cut : (i : ℕ) → length f < t.at + i * 4 + 4 → 0 ≡ size_at f t i
  cut i h = ends 4 f (t.at + i * 4) (λ q. 0) (λ n. n) 0 h refl ∙ sized i

  pub span-past : length f < t.at + from * 4 → 0 ≡ span_of f t from to
  unfolding span_of
  span-past h = sum-zero (size_at f t) (to - from) from (λ j q r. cut j (omega arith))

  -- what p is: the bytes of those sizes that the file holds
  module _ (p : List ℕ) (r : ℕ) (e : r ≡ words_sum p) (start q : ℕ) (is : p ≡ take q (drop start f)) (at : start ≡ t.at + from * 4)
      (here : start ≤ length f) (many : min q (length f - start) ≡ min ((to - from) * 4) (length f - start)) where
    cut-to : length p ≡ min q (length f - start)
    cut-to = omega (arith, ap length is, length-take q (drop start f), length-drop start f)

    within : length p ≤ q
    within = omega (arith, cut-to)

    long : length p ≡ min ((to - from) * 4) (length f - start)
    long = cut-to ∙ many

    same : (j : ℕ) → j * 4 + 4 ≤ length p → word_of p j ≡ size_at f t (from + j)
    same j h =
        let e : start + j * 4 ≡ t.at + (from + j) * 4 = omega (arith, at) in
        let b : be 4 p (j * 4) ≡ be 4 f (t.at + (from + j) * 4) =
        ap (λ (l : List ℕ). be 4 l (j * 4)) is ∙ be-take 4 q (drop start f) (j * 4) (omega (arith, within)) ∙ be-drop 4 start f (j * 4) ∙ ap (be 4 f) e in
        sym (whole 4 p (j * 4) (λ x. 0) (λ n. n) (be 4 f (t.at + (from + j) * 4)) (be 4 f (t.at + (from + j) * 4)) h (sym b) refl)
        ∙ whole 4 f (t.at + (from + j) * 4) (λ x. 0) (λ n. n) (be 4 f (t.at + (from + j) * 4)) (be 4 f (t.at + (from + j) * 4)) (omega (arith, long, at)) refl refl
        ∙ sized (from + j)

    pub span-part : r ≡ span_of f t from to
    unfolding span_of words_sum
    span-part =
        e ∙ sum-part (size_at f t) (word_of p) (to - from) (length p / 4) from 0 (omega (arith, long))
        (λ j h k. same j (omega arith) ∙ ap (λ (x : ℕ). size_at f t (from + x)) (let d : j ≡ j - 0 = omega arith in d))
        (λ j h k. cut j (omega (arith, long, at)))

-- A WALK OVER THE NUMBERS OF A PART

-- those before position i are s together
abbrev pub Added : List ℕ → ℕ → ℕ → Type 0
Added p i s = (i ≡ i / 4 * 4) × (s ≤ i / 4 * 4294967295) × (s + sum (list_from (word_of p) (length p / 4 - i / 4) (i / 4)) ≡ words_sum p)

pub added_none : (p : List ℕ) → Added p 0 0
unfolding words_sum
added_none p =
    let e : length p / 4 - 0 / 4 ≡ length p / 4 = omega arith in
    (refl, omega arith, zero-add (sum (list_from (word_of p) (length p / 4 - 0 / 4) 0)) ∙ ap (λ (n : ℕ). sum (list_from (word_of p) n 0)) e)

module _ (p : List ℕ) (i s : ℕ) (a : Added p i s) where
  pub added-all : length p < i + 4 → s ≡ words_sum p
  added-all h =
      let e : length p / 4 - i / 4 ≡ 0 = omega (arith, a.0) in
      let z : s + 0 ≡ s = omega arith in
      sym z ∙ ap (λ (n : ℕ). s + sum (list_from (word_of p) n (i / 4))) (sym e) ∙ a.2

  module _ (u : Result ℕ Refusal) (e : u ≡ field Err 4 p i Ok) where
    pub added-cut : (q : Refusal) → u ≡ Err q → s ≡ words_sum p
    added-cut q g = added-all (lacks by-result 4 p i u e q g)

    pub added-one : (n : ℕ) → u ≡ Ok n → n < 4294967296 → Added p (i + 4) (s + n)
    added-one n g b =
        let t = there by-result 4 p i u e n g in
        let k : (i + 4) / 4 ≡ i / 4 + 1 = omega (arith, a.0) in
        let m : length p / 4 - (i / 4 + 1) ≡ length p / 4 - i / 4 - 1 = omega arith in
        let w : n ≡ word_of p (i / 4) = whole 4 p (i / 4 * 4) (λ x. 0) (λ x. x) n n (omega (arith, a.0, t.0)) (t.1 ∙ ap (be 4 p) a.0) refl in
        let f : word_of p (i / 4) + sum (list_from (word_of p) (length p / 4 - i / 4 - 1) (i / 4 + 1)) ≡ sum (list_from (word_of p) (length p / 4 - i / 4) (i / 4)) =
        sum_first (word_of p) (length p / 4) (i / 4) (i / 4) (omega (arith, a.0, t.0)) in (
          omega (arith, a.0),
          omega (arith, a.0, a.1),
          ap₂ (λ (x y : ℕ). s + n + sum (list_from (word_of p) x y)) (ap (λ (x : ℕ). length p / 4 - x) k ∙ m) k ∙ omega (arith, w, f, a.2),
        )
