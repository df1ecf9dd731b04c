-- The walk that answers in one pass, as a fold over moofs, tracks and runs. `walk-answers` (proofs/Walked.antt) says that it
-- gives `followed_of`. Assumes nothing.
use Rattle.std.specs.Prelude.{ℕ, ◌+◌, min, Bool, true, false, List, [], ◌∷◌, ℤ, pos, negsuc, ◌==◌, slice_index_or, slice_set, Option, Some, None}
use Rattle.numbers.specs.Field.{when}
use Rattle.runs.specs.Samples.{durations_in}
use Rattle.runs.specs.declared.Run.{Run}
use Rattle.gaps.specs.Gaps as gaps
use Rattle.mooftable.specs.declared.Moof as row
use Rattle.verdicts.specs.Findings.{F7, F8}
use Rattle.verdicts.specs.Fragments.{Due, free, due, fits, next_number}
use Rattle.follows.specs.Follows.{runs_in}
use Rattle.follows.specs.declared.Before.{Before}
use Rattle.follows.specs.declared.Walk.{Walk}
use Rattle.follows.specs.declared.Walks.{Walks}
use Rattle.follows.specs.declared.Followed.{Followed}
use Rattle.follows.specs.declared.Followed.TheVariants.{Over, Passes, Found}

-- one answer and then another: Over before all, else the first that finds
unfoldable pub joined : Followed → Followed → Followed
joined Over b = Over
joined Passes b = b
joined (Found f) Over = Over
joined (Found f) Passes = Found f
joined (Found f) (Found g) = Found f

abbrev pub is_zero : ℤ → Bool
is_zero (pos n) = n == 0
is_zero (negsuc n) = false

-- F8, by the gap
unfoldable pub gap_asked : Option ℤ → ℕ → ℕ → Followed
gap_asked None t at = Over
gap_asked (Some g) t at = when (is_zero g) Passes (Found (F8 t at g))

unfoldable pub time_asked : Before → ℕ → ℕ → ℕ → Followed
time_asked b time t at = when b.some (gap_asked (gaps.gap_of b.time b.lasts time) t at) Passes

-- F7
unfoldable pub number_asked : Due → row.Moof → Followed
number_asked d m = when (fits d m.number) Passes (Found (F7 m.start))

abbrev pub due_by : Bool → ℕ → Due
due_by true n = due n
due_by false n = free

-- ONE TRACK

abbrev pub walked : Before → Followed → Walk
walked b t = record { before = b; told = t }

abbrev pub fresh : Before
fresh = record { some = false; time = 0; lasts = 0 }

abbrev pub behind : List ℕ → Run → Before
behind f r = record { some = true; time = r.time; lasts = durations_in f r }

unfoldable pub after_run : List ℕ → ℕ → ℕ → Run → Walk → Walk
after_run f t at r w = when (r.track == t) (walked (behind f r) (joined w.told (time_asked w.before r.time t at))) w

abbrev pub after_runs : List ℕ → ℕ → ℕ → List Run → Walk → Walk
after_runs f t at [] w = w
after_runs f t at (r ∷ rs) w = after_runs f t at rs (after_run f t at r w)

-- ALL TRACKS, of which the k-th has place k

abbrev pub walks : List Before → Followed → Walks
walks bs t = record { befores = bs; told = t }

abbrev pub put_at : ℕ → List Before → Walk → Walks
put_at k bs w = walks (slice_set bs k w.before) w.told

abbrev pub after_tracks : List ℕ → ℕ → List Run → ℕ → List ℕ → Walks → Walks
after_tracks f at rs k [] w = w
after_tracks f at rs k (t ∷ ts) w =
    after_tracks f at rs (k + 1) ts (put_at k w.befores (after_runs f t at rs (walked (slice_index_or w.befores k fresh) w.told)))

-- ALL MOOFS

-- the row at which runs end, of n runs, before these moofs
abbrev pub last_row : ℕ → List row.Moof → ℕ
last_row n [] = n
last_row n (m ∷ ms) = min m.runs n

abbrev pub after_moof : List ℕ → List Run → List ℕ → Due → row.Moof → List row.Moof → Walks → Walks
after_moof f rs ts d m ms w = after_tracks f m.start (runs_in rs m ms) 0 ts (walks w.befores (joined w.told (number_asked d m)))

abbrev pub after_moofs : List ℕ → List Run → List ℕ → Due → List row.Moof → Walks → Walks
after_moofs f rs ts d [] w = w
after_moofs f rs ts d (m ∷ ms) w = after_moofs f rs ts (due (next_number m.number)) ms (after_moof f rs ts d m ms w)
