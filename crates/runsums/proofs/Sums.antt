-- Sums of a run's values, one after the other and all at once. Assumes nothing.
use Rattle.std.specs.Prelude.{Some, None}
use Prim.Native.Nat.{ℕ, zero, suc, ◌+◌, ◌-◌, ◌*◌, ◌^◌, ◌≤◌, ◌<◌}
use mathlib.Core.Path.{◌≡◌, refl, sym, ap, ◌∙◌}
use mathlib.Core.List.{List}
use mathlib.Core.Bool.{false}
use native.Mathlib.Omega.{arith}
use native.Mathlib.Nat.{suc-mul, zero-mul, mul-le-mul_right, zero-add, sub-zero}
use Rattle.numbers.proofs.Chain.{is_lt, not-lt, by-false}
use Rattle.layout.specs.Rule.{is_set}
use Rattle.trun.specs.Trun.{duration_bit, size_bit}
use Rattle.runs.specs.Values.{own_of, duration_at, size_at}
use Rattle.runs.specs.Samples.{sum_from, bytes_in, end_by, durations_in}
use Rattle.runs.specs.declared.Run.{Run}

module _ (g : ℕ → ℕ) where
  pub sum-next : (n i : ℕ) → i < n → sum_from g (n - i) i ≡ g i + sum_from g (n - (i + 1)) (i + 1)
  sum-next n i h = let e : n - i ≡ suc (n - (i + 1)) = omega arith in ap (λ (k : ℕ). sum_from g k i) e

  pub sum-end : (n i : ℕ) → n ≤ i → sum_from g (n - i) i ≡ 0
  sum-end n i h = let e : n - i ≡ 0 = omega arith in ap (λ (k : ℕ). sum_from g k i) e

  -- of all, as a loop that begins has it
  pub sum-begins : (n : ℕ) → 0 + sum_from g (n - 0) 0 ≡ sum_from g n 0
  sum-begins n = zero-add (sum_from g (n - 0) 0) ∙ ap (λ (k : ℕ). sum_from g k 0) (sub-zero n)

  -- of one value
  pub sum_same : (v : ℕ) → ((i : ℕ) → g i ≡ v) → (n i : ℕ) → sum_from g n i ≡ n * v
  sum_same v e zero i = sym (zero-mul v)
  sum_same v e (suc n) i = omega (arith, e i, sum_same v e n (i + 1), suc-mul n v)

-- a count and a size of 32 bits each
pub product : (a b : ℕ) → a < 4294967296 → b < 4294967296 → a * b < 2 ^ 64
product a b h g =
    let e : a * b ≤ 4294967295 * b = mul-le-mul_right b (omega arith) in
    omega (arith, e)

module _ (n : ℕ) where
  pub ends_at : (m : ℕ) → m ≡ n → m < 2 ^ 64 → Some m ≡ end_by n
  ends_at m e h = ap Some e ∙ is_lt _ _ (Some n) n (2 ^ 64) (omega arith) refl

  pub ends-over : 2 ^ 64 ≤ n → None ≡ end_by n
  ends-over h = not-lt (Some n) _ None n (2 ^ 64) h refl

module _ (f : List ℕ) (r : Run) where
  -- a default size, as often as there are samples
  pub bytes_same : is_set r.trun.flags size_bit ≡ false → r.trun.sample_count * r.size ≡ bytes_in f r
  unfolding bytes_in size_at
  bytes_same e =
      sym (sum_same (size_at f r) r.size (λ i. sym (by-false (own_of f r i).size r.size r.size _ e refl)) r.trun.sample_count 0)

  pub durations-same : is_set r.trun.flags duration_bit ≡ false → r.trun.sample_count * r.duration ≡ durations_in f r
  unfolding durations_in duration_at
  durations-same e =
      sym (sum_same (duration_at f r) r.duration (λ i. sym (by-false (own_of f r i).duration r.duration r.duration _ e refl)) r.trun.sample_count 0)
