-- Whether the fragments of a file follow on, F7 and F8 (01, Fragments; A34, A42), by the rows of its moofs and of its runs.
-- Before a finding comes that a gap has no 64 signed bits (A13, refusal 9). Assumes nothing.
use Rattle.std.specs.Prelude.{ℕ, ℤ, Bool, true, false, ◌&&◌, List, [], ◌∷◌, length, take, drop, slice_index, Option, Some, None}
use Rattle.numbers.specs.Field.{when}
use Rattle.tables.specs.Tables.{listed}
use Rattle.runs.specs.Samples.{durations_in}
use Rattle.runs.specs.declared.Run.{Run}
use Rattle.gaps.specs.Gaps as gaps
use Rattle.mooftable.specs.declared.Moof as row
use Rattle.verdicts.specs.Findings.{Track, track, Answer, passes, found, first_found}
use Rattle.verdicts.specs.Fragments.{Traf, Moof, Clock, free, follow_from}
use Rattle.verdicts.specs.Meaning.{trafs_of}
use Rattle.follows.specs.declared.Followed.{Followed}
use Rattle.follows.specs.declared.Followed.TheVariants.{Over, Passes, Found}

-- the first n numbers of a list
abbrev pub numbers_in : List ℕ → ℕ → List ℕ
numbers_in ns n = listed (λ k. slice_index ns k) n

-- MOOFS

-- a run as the traf that it is of
abbrev pub traf_of : List ℕ → Run → Traf
traf_of f r = record { track = r.track; tfdt = r.time; lasts = durations_in f r }

abbrev pub as_trafs : List ℕ → List Run → List Traf
as_trafs f [] = []
as_trafs f (r ∷ rs) = traf_of f r ∷ as_trafs f rs

-- where a moof's runs end: where those of the next moof begin, if there is one
abbrev pub end_before : List Run → List row.Moof → ℕ
end_before rs [] = length rs
end_before rs (m ∷ ms) = m.runs

-- a moof has the runs from its first one on, up to the first of the next moof
abbrev pub runs_in : List Run → row.Moof → List row.Moof → List Run
runs_in rs m ms = drop m.runs (take (end_before rs ms) rs)

abbrev pub moofs_in : List ℕ → List Run → List row.Moof → List Moof
moofs_in f rs [] = []
moofs_in f rs (m ∷ ms) = record { start = m.start; number = m.number; trafs = as_trafs f (runs_in rs m ms) } ∷ moofs_in f rs ms

-- the numbers of tracks
abbrev pub track_numbers : List Track → List ℕ
track_numbers [] = []
track_numbers (track n a l ∷ ts) = n ∷ track_numbers ts

-- the tracks of these numbers, each with its first time free
abbrev pub clocks : List ℕ → List Clock
clocks [] = []
clocks (n ∷ ns) = record { track = n; next = free } ∷ clocks ns

-- GAPS

abbrev pub fits_in64 : Option ℤ → Bool
fits_in64 (Some g) = true
fits_in64 None = false

-- the gaps of a track's trafs fit, behind one that began then and lasts so long
abbrev pub fit_behind : ℕ → ℕ → List Traf → Bool
fit_behind b l [] = true
fit_behind b l (x ∷ xs) = fits_in64 (gaps.gap_of b l x.tfdt) && fit_behind x.tfdt x.lasts xs

-- a track's first traf has no gap
abbrev pub fit_in : List Traf → Bool
fit_in [] = true
fit_in (x ∷ xs) = fit_behind x.tfdt x.lasts xs

-- every gap of the tracks of these numbers fits
abbrev pub gaps_fit : List ℕ → List Moof → Bool
gaps_fit [] ms = true
gaps_fit (t ∷ ts) ms = fit_in (trafs_of t ms) && gaps_fit ts ms

-- THE ANSWER

abbrev pub tell : Answer → Followed
tell passes = Passes
tell (found f) = Found f

-- the first of the answers that finds, where the gaps fit
unfoldable pub answer : Bool → List Answer → Followed
answer b l = when b (tell (first_found l)) Over

-- of these runs, moofs and numbers of tracks
unfoldable pub followed_of : List ℕ → List Run → List row.Moof → List ℕ → Followed
followed_of f rs ms ts = answer (gaps_fit ts (moofs_in f rs ms)) (follow_from free (clocks ts) (moofs_in f rs ms))
