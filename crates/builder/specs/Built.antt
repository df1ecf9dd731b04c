-- The entries of the tables that are built from samples (01, Writer; ISO/IEC 14496-12: 8.6.1.2 stts, 8.6.1.3 ctts, 8.6.2
-- stss, 8.7.3.2 stsz). The samples are the first n records of a buffer. Assumes nothing.
use Rattle.std.specs.Prelude.{ℕ, ◌+◌, List, [], ◌∷◌, ◌++◌, Bool, true, ◌&&◌, eqb}
use Rattle.numbers.specs.Field.{when}
use Rattle.put.specs.Put.{Wrote}
use Rattle.tables.specs.declared.Row.{Row}
use Rattle.merging.specs.Merging.{merged_of}
use Rattle.columns.specs.Columns.{column_of, lows_of, all_meet}
use Rattle.columns.specs.Entries.{built_of}
use Rattle.columns.specs.declared.Rule.TheVariants.{Zero, Narrow, Signed}

-- DURATIONS AND COMPOSITION OFFSETS: a pair of a count and a value for each row

abbrev pub pairs_of : List Row → List ℕ
pairs_of [] = []
pairs_of (r ∷ rs) = r.count ∷ r.value ∷ pairs_of rs

-- the numbers of column k, as 32 bits each, in the fewest pairs
abbrev pub runs_of : List ℕ → ℕ → ℕ → List ℕ
runs_of rs n k = pairs_of (merged_of (lows_of rs n k))

-- 13 for a duration past 32 bits
abbrev pub stts_of : List ℕ → ℕ → List ℕ → Wrote
stts_of rs n o = built_of rs n (all_meet Narrow (column_of rs n 4)) (runs_of rs n 4) o

-- 13 for an offset that is no signed number of 32 bits; none where all are 0 (A57)
abbrev pub ctts_of : List ℕ → ℕ → List ℕ → Wrote
ctts_of rs n o = built_of rs n (all_meet Signed (column_of rs n 5)) (when (all_meet Zero (column_of rs n 5)) [] (runs_of rs n 5)) o

-- SIZES

abbrev pub all_same : ℕ → List ℕ → Bool
all_same x [] = true
all_same x (y ∷ l) = eqb y x && all_same x l

-- the size that all have in common; 0 where there is none, as in an empty track (A58)
abbrev pub common_of : List ℕ → ℕ
common_of [] = 0
common_of (x ∷ l) = when (all_same x l) x 0

unfoldable pub common_in : List ℕ → ℕ → ℕ
common_in rs n = when (all_meet Narrow (column_of rs n 2)) (common_of (lows_of rs n 2)) 0

-- listed where they have none in common, or it is 0; 13 for a size past 32 bits
abbrev pub stsz_of : List ℕ → ℕ → List ℕ → Wrote
stsz_of rs n o = built_of rs n (all_meet Narrow (column_of rs n 2)) (when (eqb (common_in rs n) 0) (lows_of rs n 2) []) o

-- SYNC SAMPLES

-- the number of a sample, where it is sync
unfoldable pub sync_word : ℕ → ℕ → List ℕ
sync_word sync number = when (eqb sync 0) [] (number ∷ [])

-- the numbers of those that are sync, with i samples before them
abbrev pub syncs_from : ℕ → List ℕ → List ℕ
syncs_from i [] = []
syncs_from i (x ∷ l) = sync_word x (i + 1) ++ syncs_from (i + 1) l

abbrev pub syncs_in : List ℕ → ℕ → List ℕ
syncs_in rs n = syncs_from 0 (column_of rs n 6)

abbrev pub stss_of : List ℕ → ℕ → List ℕ → Wrote
stss_of rs n o = built_of rs n true (syncs_in rs n) o
