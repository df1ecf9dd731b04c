-- The samples of a run (ISO/IEC 14496-12, 8.8.8): each begins where the one before ends, in the file and in time. Every
-- sum is in ℕ, without limit. Assumes nothing.
use Rattle.std.specs.Prelude.{ℕ, zero, suc, ◌+◌, List, [], ◌∷◌, ltb, Option, Some, None}
use Rattle.numbers.specs.Field.{when}
use Rattle.samples.specs.Lists.{end_bound}
use Rattle.samples.specs.declared.Sample.{Sample}
use Rattle.runs.specs.Values.{own_of, duration_at, size_at, flags_at, sync_by}
use Rattle.runs.specs.declared.Run.{Run}

-- the i-th sample of the run, of that number, at that place and time
unfoldable pub sample_at : List ℕ → Run → ℕ → ℕ → ℕ → ℕ → Sample
sample_at f r i n at time = record {
  number = n;
  offset = at;
  size = size_at f r i;
  time = time;
  duration = duration_at f r i;
  composition = (own_of f r i).composition_offset;
  sync = sync_by (flags_at f r i);
}

-- k samples from the i-th on, after n samples, the first at that place and time
abbrev pub samples_from : List ℕ → Run → ℕ → ℕ → ℕ → ℕ → ℕ → List Sample
samples_from f r zero i n at time = []
samples_from f r (suc k) i n at time =
    sample_at f r i (n + 1) at time ∷ samples_from f r k (i + 1) (n + 1) (at + size_at f r i) (time + duration_at f r i)

-- the samples of a run, after n samples of runs before
unfoldable pub run_samples : List ℕ → Run → ℕ → List Sample
run_samples f r n = samples_from f r r.trun.sample_count 0 n r.start r.time

-- the sum of k values from the i-th on
abbrev pub sum_from : (ℕ → ℕ) → ℕ → ℕ → ℕ
sum_from g zero i = 0
sum_from g (suc k) i = g i + sum_from g k (i + 1)

-- the bytes of a run's samples, and the end of its data
unfoldable pub bytes_in : List ℕ → Run → ℕ
bytes_in f r = sum_from (size_at f r) r.trun.sample_count 0

abbrev pub end_at : List ℕ → Run → ℕ
end_at f r = r.start + bytes_in f r

abbrev pub end_by : ℕ → Option ℕ
end_by n = when (ltb n end_bound) (Some n) None

abbrev pub end_of : List ℕ → Run → Option ℕ
end_of f r = end_by (end_at f r)

-- how long a run's samples last together, and the time after it: that at which the track's next run is to begin
unfoldable pub durations_in : List ℕ → Run → ℕ
durations_in f r = sum_from (duration_at f r) r.trun.sample_count 0

abbrev pub time_after : List ℕ → Run → ℕ
time_after f r = r.time + durations_in f r
