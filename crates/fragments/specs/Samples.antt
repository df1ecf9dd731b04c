-- The samples of one track of a fragmented file (ISO/IEC 14496-12, 8.8): those of its runs, in the order of the file,
-- numbered from 1 through the file. Assumes nothing.
use Rattle.std.specs.Prelude.{ℕ, ◌+◌, List, [], ◌∷◌, ◌++◌, eqb}
use Rattle.numbers.specs.Field.{when}
use Rattle.samples.specs.declared.Sample.{Sample}
use Rattle.runs.specs.Samples.{run_samples}
use Rattle.runs.specs.declared.Run.{Run}

-- how many samples of the track a run has: all of its own, or none
unfoldable pub count_of : ℕ → Run → ℕ
count_of t r = when (eqb r.track t) r.trun.sample_count 0

-- the samples of the track that a run has, after n of them
unfoldable pub mine : List ℕ → ℕ → Run → ℕ → List Sample
mine f t r n = when (eqb r.track t) (run_samples f r n) []

-- the samples of the track in runs, after n of them
abbrev pub samples_after : List ℕ → ℕ → ℕ → List Run → List Sample
samples_after f t n [] = []
samples_after f t n (r ∷ rs) = mine f t r n ++ samples_after f t (n + count_of t r) rs

abbrev pub samples_of_runs : List ℕ → List Run → ℕ → List Sample
samples_of_runs f rs t = samples_after f t 0 rs

-- how many there are
abbrev pub count_in : ℕ → List Run → ℕ
count_in t [] = 0
count_in t (r ∷ rs) = count_of t r + count_in t rs
