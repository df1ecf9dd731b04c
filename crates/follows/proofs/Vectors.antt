-- Worked examples of the definitions, computed: cases 7 and 8 of document 01, and the order of A34. The tracks have the
-- numbers 7 and 3, in this order; each run's samples last 3,000. Assumes nothing.
use Rattle.std.proofs.Common.{◌≡◌, ℕ, ◌+◌, ◌^◌, true, false, List, [], ◌∷◌, pos, negsuc, refl}
use Rattle.numbers.specs.Field.{when}
use Rattle.runs.specs.declared.Run.{Run}
use Rattle.runs.specs.Values.{duration_at}
use Rattle.runs.specs.Samples.{durations_in}
use Rattle.gaps.specs.Gaps.{gap_of}
use Rattle.verdicts.specs.Findings.{track, F7, F8}
use Rattle.verdicts.specs.Fragments.{Moof}
use Rattle.follows.specs.Follows.{numbers_in, moofs_in, track_numbers, gaps_fit, answer, followed_of}
use Rattle.moofs.specs.Moofs.{Fragment, all_runs, moofs_from}
use Rattle.follows.specs.declared.Followed.{Followed}
use Rattle.follows.specs.declared.Followed.TheVariants.{Over, Passes, Found}

-- a run of n samples of 3,000 each
abbrev run : ℕ → ℕ → ℕ → Run
run t time n = record { track = t; start = 0; time = time; at = 0; trun = record { version = 0; flags = 0; sample_count = n; data_offset = 0; first_sample_flags = 0 }; duration = 3000; size = 1; flags = 0 }

abbrev moof : ℕ → ℕ → List Run → Fragment
moof at n l = record { start = at; number = n; runs = l }

abbrev followed : List Fragment → Followed
followed xs = followed_of [] (all_runs xs) (moofs_from 0 xs) (7 ∷ 3 ∷ [])

-- CASE 7

case-7-right : followed (moof 100 1 (run 7 9000 3 ∷ []) ∷ moof 500 2 (run 7 18000 3 ∷ []) ∷ []) ≡ Passes
unfolding followed_of answer when gap_of durations_in duration_at
case-7-right = refl

case-7-gap : followed (moof 100 1 (run 7 9000 3 ∷ []) ∷ moof 500 2 (run 7 17999 3 ∷ []) ∷ []) ≡ Found (F8 7 500 (negsuc 0))
unfolding followed_of answer when gap_of durations_in duration_at
case-7-gap = refl

-- CASE 8

case-8-right : followed (moof 100 4294967295 [] ∷ moof 500 0 [] ∷ []) ≡ Passes
unfolding followed_of answer when gap_of durations_in duration_at
case-8-right = refl

case-8-break : followed (moof 100 4294967295 [] ∷ moof 500 1 [] ∷ []) ≡ Found (F7 500)
unfolding followed_of answer when gap_of durations_in duration_at
case-8-break = refl

-- A34 AND A42

-- tracks in the order of the moov, whatever the order of the trafs
case-order : followed (moof 100 1 (run 3 0 1 ∷ run 7 0 1 ∷ []) ∷ moof 500 2 (run 3 1 1 ∷ run 7 2 1 ∷ []) ∷ []) ≡ Found (F8 7 500 (negsuc 2997))
unfolding followed_of answer when gap_of durations_in duration_at
case-order = refl

-- the number before the times of its moof, and these before the next number
case-number-first : followed (moof 100 1 (run 7 0 1 ∷ []) ∷ moof 500 3 (run 7 5 1 ∷ []) ∷ []) ≡ Found (F7 500)
unfolding followed_of answer when gap_of durations_in duration_at
case-number-first = refl

case-time-first : followed (moof 100 1 (run 7 0 1 ∷ []) ∷ moof 500 2 (run 7 4000 1 ∷ []) ∷ moof 900 9 [] ∷ []) ≡ Found (F8 7 500 (pos 1000))
unfolding followed_of answer when gap_of durations_in duration_at
case-time-first = refl

-- several trafs of a track in a moof follow on in it
case-several : followed (moof 100 1 (run 7 0 1 ∷ run 3 50 2 ∷ run 7 3000 1 ∷ []) ∷ moof 500 2 (run 7 6000 1 ∷ run 3 6050 1 ∷ []) ∷ []) ≡ Passes
unfolding followed_of answer when gap_of durations_in duration_at
case-several = refl

-- an empty run lasts 0, its time must be right, and it is the one before the next
case-empty : followed (moof 100 1 (run 7 0 1 ∷ run 7 3001 0 ∷ run 7 3000 1 ∷ []) ∷ []) ≡ Found (F8 7 100 (pos 1))
unfolding followed_of answer when gap_of durations_in duration_at
case-empty = refl

-- THE LIMITS (A13)

-- a gap that does not fit comes before every finding
case-over : followed (moof 100 1 (run 3 5 1 ∷ []) ∷ moof 500 9 (run 3 (2 ^ 63) 1 ∷ []) ∷ []) ≡ Over
unfolding followed_of answer when gap_of durations_in duration_at
case-over = refl

-- a track's first time has no gap, nor has a run of another track
case-first-free : followed (moof 100 1 (run 3 (2 ^ 63) 1 ∷ run 9 5 1 ∷ run 9 (2 ^ 63) 1 ∷ []) ∷ []) ≡ Passes
unfolding followed_of answer when gap_of durations_in duration_at
case-first-free = refl

-- ROWS

-- a moof whose runs begin behind those of the next has none, and the last has all that are left
case_rows : moofs_in [] (run 7 0 1 ∷ run 7 3000 1 ∷ []) (record { start = 100; number = 1; runs = 2 } ∷ record { start = 500; number = 2; runs = 1 } ∷ [])
    ≡ record { start = 100; number = 1; trafs = [] } ∷ record { start = 500; number = 2; trafs = record { track = 7; tfdt = 3000; lasts = 3000 } ∷ [] } ∷ []
unfolding durations_in duration_at when
case_rows = refl

case-numbers : numbers_in (7 ∷ 3 ∷ 5 ∷ []) 2 ≡ 7 ∷ 3 ∷ []
case-numbers = refl

case-tracks : track_numbers (track 7 true [] ∷ track 3 false [] ∷ []) ≡ 7 ∷ 3 ∷ []
case-tracks = refl

-- GAPS

-- a traf that lasts n, and one at the same time
abbrev back : ℕ → List Moof
back n = record { start = 0; number = 1; trafs = record { track = 7; tfdt = 0; lasts = n } ∷ record { track = 7; tfdt = 0; lasts = 0 } ∷ [] } ∷ []

-- the farthest gap below 0 fits, and one more does not; no other track has one
case-farthest : gaps_fit (7 ∷ []) (back (2 ^ 63)) ≡ true
unfolding gap_of when
case-farthest = refl

case-farther : gaps_fit (7 ∷ []) (back (2 ^ 63 + 1)) ≡ false
unfolding gap_of when
case-farther = refl

case-other : gaps_fit (3 ∷ 9 ∷ []) (back (2 ^ 63 + 1)) ≡ true
unfolding gap_of when
case-other = refl
