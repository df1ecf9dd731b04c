-- What a lane in a run has left: all of its samples where it begins, and as many as the count says. What the samples' own
-- bytes and times come to. Assumes nothing.
use Prim.Native.Nat.{ℕ, zero, suc, ◌+◌, ◌-◌}
use mathlib.Core.Path.{◌≡◌, refl, sym, ap}
use mathlib.Core.List.{List}
use native.Mathlib.Nat.{sub-zero}
use lib.ListN.{length}
use Rattle.samples.specs.Lists.{bytes_of}
use Rattle.runs.specs.Values.{duration_at, size_at}
use Rattle.runs.specs.Samples.{sample_at, samples_from, run_samples, sum_from, bytes_in, end_at}
use Rattle.runs.specs.Lane.{left, begun}
use Rattle.runs.specs.declared.Run.{Run}
use Rattle.runs.specs.declared.Lane.{Lane}

module _ (f : List ℕ) (r : Run) where
  pub left-begun : (n : ℕ) → left f r (begun r n) ≡ run_samples f r n
  unfolding left run_samples
  left-begun n = ap (λ (k : ℕ). samples_from f r k 0 n r.start r.time) (sub-zero r.trun.sample_count)

  length_from : (k i n at time : ℕ) → length (samples_from f r k i n at time) ≡ k
  length_from zero i n at time = refl
  length_from (suc k) i n at time = ap suc (length_from k (i + 1) (n + 1) (at + size_at f r i) (time + duration_at f r i))

  pub how-many-left : (l : Lane) → length (left f r l) ≡ r.trun.sample_count - l.index
  unfolding left
  how-many-left l = length_from (r.trun.sample_count - l.index) l.index l.number l.offset l.time

  pub how-many : (n : ℕ) → length (run_samples f r n) ≡ r.trun.sample_count
  unfolding run_samples
  how-many n = length_from r.trun.sample_count 0 n r.start r.time

  bytes-from : (k i n at time : ℕ) → bytes_of (samples_from f r k i n at time) ≡ sum_from (size_at f r) k i
  unfolding sample_at
  bytes-from zero i n at time = refl
  bytes-from (suc k) i n at time =
      ap (λ (b : ℕ). size_at f r i + b) (bytes-from k (i + 1) (n + 1) (at + size_at f r i) (time + duration_at f r i))

  pub bytes-are : (n : ℕ) → bytes_of (run_samples f r n) ≡ bytes_in f r
  unfolding bytes_in run_samples
  bytes-are n = bytes-from r.trun.sample_count 0 n r.start r.time

  -- the end of a run's data is its start and the bytes of its samples
  pub end_is : (n : ℕ) → end_at f r ≡ r.start + bytes_of (run_samples f r n)
  end_is n = ap (λ (b : ℕ). r.start + b) (sym (bytes-are n))
