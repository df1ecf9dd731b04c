-- A count of samples or of bytes in 64 bits. Of the rest no public promise speaks: the bytes of runs, which are those of
-- their samples (`bytes-of-samples`, proofs/Counts.antt), and the place of a sample by the counts of runs, where the sample
-- of that number is (`by_place`, proofs/Places.antt). Assumes nothing.
use Rattle.std.specs.Prelude.{ℕ, ◌+◌, ◌-◌, ◌^◌, List, [], ◌∷◌, eqb, ltb, Option, Some, None}
use Rattle.numbers.specs.Field.{when}
use Rattle.runs.specs.Samples.{bytes_in}
use Rattle.runs.specs.declared.Run.{Run}
use Rattle.fragments.specs.Samples.{count_of}
use Rattle.runlookup.specs.declared.Place.{Place}
use Rattle.runlookup.specs.declared.Place.TheVariants.{At, Missing}

abbrev pub counted : ℕ → Option ℕ
counted n = when (ltb n (2 ^ 64)) (Some n) None

-- the bytes of the track's samples in a run, and in runs
unfoldable pub bytes_of_run : List ℕ → ℕ → Run → ℕ
bytes_of_run f t r = when (eqb r.track t) (bytes_in f r) 0

abbrev pub bytes_of_runs : List ℕ → ℕ → List Run → ℕ
bytes_of_runs f t [] = 0
bytes_of_runs f t (r ∷ rs) = bytes_of_run f t r + bytes_of_runs f t rs

-- the place of the sample after k others, in runs after b samples of the track
unfoldable pub place_in : ℕ → ℕ → ℕ → List Run → Place
place_in t b k [] = Missing
place_in t b k (r ∷ rs) = when (ltb k (count_of t r)) (At r b k) (place_in t (b + count_of t r) (k - count_of t r) rs)
