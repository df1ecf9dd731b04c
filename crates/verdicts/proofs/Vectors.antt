-- Worked examples of the audit: 01's cases 2, 7 and 8 with their changed forms, and one for each way that a question may
-- go. Assumes nothing.
use Prim.Native.Nat.{ℕ, ◌*◌}
use mathlib.Core.Path.{◌≡◌, refl}
use mathlib.Core.List.{List, [], ◌∷◌}
use mathlib.Core.Bool.{true, false}
use lib.IntN.{pos, negsuc}
use Rattle.numbers.specs.Field.{when}
use Rattle.samples.specs.declared.Sample.{Sample}
use Rattle.verdicts.specs.Findings.{Track, track, claim, Span, F1, F2, F3, F4, F5, F6, F7, F8}
use Rattle.verdicts.specs.Sweep.{bytes, sweep_from}
use Rattle.verdicts.specs.Fragments.{Traf, Moof}
use Rattle.verdicts.specs.Audit.{questions, audit_of}
use Rattle.verdicts.specs.Meaning.{count, sizes_of}
use Rattle.verdicts.specs.declared.Verdict.TheVariants.{Clean, Found}

abbrev sample : ℕ → ℕ → ℕ → ℕ → ℕ → Sample
sample n at size time lasts = record { number = n; offset = at; size = size; time = time; duration = lasts; composition = pos 0; sync = true }

abbrev span : ℕ → ℕ → Span
span a b = record { from = a; to = b }

-- CASE 2: chunk 3 begins at `third`, the media data end before `end`; the times are case 1's

abbrev six : ℕ → List Sample
six third =
    sample 1 48 10 0 1000 ∷ sample 2 58 20 1000 1000 ∷ sample 3 78 30 2000 1000
    ∷ sample 4 108 40 3000 500 ∷ sample 5 third 50 3500 500 ∷ sample 6 198 60 4000 500 ∷ []

pub case-2 : audit_of (track 1 true (six 148) ∷ []) (span 48 258 ∷ []) [] ≡ Clean 1 6 210
unfolding audit_of questions sweep_from when
case-2 = refl

pub case-2-hole : audit_of (track 1 true (six 148) ∷ []) (span 48 259 ∷ []) []
    ≡ Found (record { number = 6; track = 0; sample = 0; position = 258; gap = pos 0 })
unfolding audit_of questions sweep_from when
case-2-hole = refl

pub case-2-overlap : audit_of (track 1 true (six 147) ∷ []) (span 48 258 ∷ []) []
    ≡ Found (record { number = 5; track = 1; sample = 5; position = 147; gap = pos 0 })
unfolding audit_of questions sweep_from when
case-2-overlap = refl

-- CASES 7 AND 8: the number of the second moof, and where its traf begins

abbrev traf : ℕ → ℕ → ℕ → Traf
traf t b l = record { track = t; tfdt = b; lasts = l }

abbrev moof : ℕ → ℕ → List Traf → Moof
moof at n l = record { start = at; number = n; trafs = l }

abbrev one : List Track
one = track 5 true [] ∷ []

pub case-7 : audit_of one [] (moof 0 1 (traf 5 9000 9000 ∷ []) ∷ moof 500 2 (traf 5 18000 9000 ∷ []) ∷ []) ≡ Clean 1 0 0
unfolding audit_of questions sweep_from when
case-7 = refl

pub case-7-gap : audit_of one [] (moof 0 1 (traf 5 9000 9000 ∷ []) ∷ moof 500 2 (traf 5 17999 9000 ∷ []) ∷ [])
    ≡ Found (record { number = 8; track = 5; sample = 0; position = 500; gap = negsuc 0 })
unfolding audit_of questions sweep_from when
case-7-gap = refl

pub case-8 : audit_of one [] (moof 0 4294967295 [] ∷ moof 500 0 [] ∷ []) ≡ Clean 1 0 0
unfolding audit_of questions sweep_from when
case-8 = refl

pub case-8-break : audit_of one [] (moof 0 4294967295 [] ∷ moof 500 1 [] ∷ [])
    ≡ Found (record { number = 7; track = 0; sample = 0; position = 500; gap = pos 0 })
unfolding audit_of questions sweep_from when
case-8-break = refl

-- TRACKS AND PAYLOADS: two tracks, numbered 7 and 3 in the order of the moov; a payload, an empty one, another

abbrev at : ℕ → ℕ → ℕ → Sample
at n o s = sample n o s (n * 10) 10

abbrev two : List Span
two = span 48 78 ∷ span 90 90 ∷ span 100 120 ∷ []

abbrev tracks : List Sample → List Sample → List Track
tracks a b = track 7 true a ∷ track 3 true b ∷ []

case-interleaved : audit_of (tracks (at 1 48 10 ∷ at 2 68 10 ∷ []) (at 1 58 10 ∷ at 2 100 20 ∷ [])) two [] ≡ Clean 2 4 50
unfolding audit_of questions sweep_from when
case-interleaved = refl

-- an overlap and a hole of one size do not cancel: the totals are those of the file above
pub not-only-totals : audit_of (tracks (at 1 48 10 ∷ at 2 67 10 ∷ []) (at 1 58 10 ∷ at 2 100 20 ∷ [])) two [] ≡ Found (F5 (claim 7 (at 2 67 10)))
unfolding audit_of questions sweep_from when
not-only-totals = refl

case-totals : sizes_of (tracks (at 1 48 10 ∷ at 2 67 10 ∷ []) (at 1 58 10 ∷ at 2 100 20 ∷ [])) ≡ bytes two
case-totals = refl

-- byte 67 is in two of its samples, byte 77 in none
case_twice : count 67 (tracks (at 1 48 10 ∷ at 2 67 10 ∷ []) (at 1 58 10 ∷ at 2 100 20 ∷ [])) ≡ 2
unfolding when
case_twice = refl

case_never : count 77 (tracks (at 1 48 10 ∷ at 2 67 10 ∷ []) (at 1 58 10 ∷ at 2 100 20 ∷ [])) ≡ 0
unfolding when
case_never = refl

-- a hole is met before what lies behind it (A41)
case-hole-first : audit_of (tracks (at 1 48 10 ∷ at 2 69 10 ∷ []) (at 1 58 10 ∷ at 2 100 20 ∷ [])) two [] ≡ Found (F6 68)
unfolding audit_of questions sweep_from when
case-hole-first = refl

case-crosses : audit_of (tracks (at 1 48 10 ∷ at 2 68 20 ∷ []) (at 1 58 10 ∷ at 2 100 20 ∷ [])) two [] ≡ Found (F4 (claim 7 (at 2 68 20)))
unfolding audit_of questions sweep_from when
case-crosses = refl

-- before every payload, and where there is none (A37)
case-outside : audit_of (tracks (at 1 20 10 ∷ []) []) two [] ≡ Found (F4 (claim 7 (at 1 20 10)))
unfolding audit_of questions sweep_from when
case-outside = refl

case-no-media : audit_of (tracks [] (at 1 20 10 ∷ [])) [] [] ≡ Found (F4 (claim 3 (at 1 20 10)))
unfolding audit_of questions sweep_from when
case-no-media = refl

-- two at one byte: the second is named, and before the first is asked to fit (A41)
case-second-named : audit_of (tracks (at 1 48 99 ∷ []) (at 1 48 10 ∷ [])) two [] ≡ Found (F5 (claim 3 (at 1 48 10)))
unfolding audit_of questions sweep_from when
case-second-named = refl

-- two below p: the first is named (A36)
case-first-named : audit_of (tracks (at 1 48 10 ∷ at 2 50 10 ∷ []) (at 1 49 10 ∷ [])) two [] ≡ Found (F5 (claim 7 (at 2 50 10)))
unfolding audit_of questions sweep_from when
case-first-named = refl

-- a sample left after the last payload: F4, or F5 where its start lies in a payload
case-left-over : audit_of (tracks (at 1 48 30 ∷ at 2 100 20 ∷ at 3 120 5 ∷ []) []) two [] ≡ Found (F4 (claim 7 (at 3 120 5)))
unfolding audit_of questions sweep_from when
case-left-over = refl

case-left-over-inside : audit_of (tracks (at 1 48 30 ∷ at 2 100 20 ∷ []) (at 1 119 5 ∷ [])) two [] ≡ Found (F5 (claim 3 (at 1 119 5)))
unfolding audit_of questions sweep_from when
case-left-over-inside = refl

-- F1 TO F3

-- by track, and before everything else
case-disagree : audit_of (track 7 true (at 1 48 0 ∷ []) ∷ track 3 false [] ∷ []) two [] ≡ Found (F1 3)
unfolding audit_of questions sweep_from when
case-disagree = refl

-- at one sample F2 comes before F3, and the sample before comes first (A40)
case-empty : audit_of (tracks (sample 1 48 0 0 0 ∷ sample 2 48 1 0 0 ∷ []) []) two [] ≡ Found (F2 (claim 7 (sample 1 48 0 0 0)))
unfolding audit_of questions sweep_from when
case-empty = refl

case-still : audit_of (tracks (sample 1 48 1 0 0 ∷ sample 2 49 0 0 0 ∷ []) []) two [] ≡ Found (F3 (claim 7 (sample 1 48 1 0 0)))
unfolding audit_of questions sweep_from when
case-still = refl

-- the last sample of each track may last for no time
case-last-still : audit_of (tracks (sample 1 48 4 0 0 ∷ []) (sample 1 52 6 0 0 ∷ [])) (span 48 58 ∷ []) [] ≡ Clean 2 2 10
unfolding audit_of questions sweep_from when
case-last-still = refl

-- FRAGMENTS (A34): tracks 7 and 3

-- the number comes before the times of its moof, the times before the next moof's number
case-number-first : audit_of (tracks [] []) [] (moof 0 1 (traf 7 0 5 ∷ []) ∷ moof 500 3 (traf 7 9 5 ∷ []) ∷ []) ≡ Found (F7 500)
unfolding audit_of questions sweep_from when
case-number-first = refl

case-times-first : audit_of (tracks [] []) [] (moof 0 1 (traf 7 0 5 ∷ []) ∷ moof 500 2 (traf 7 9 5 ∷ []) ∷ moof 600 4 [] ∷ [])
    ≡ Found (F8 7 500 (pos 4))
unfolding audit_of questions sweep_from when
case-times-first = refl

-- in the order of the moov, not of the trafs; each track by its own clock
case-moov-order : audit_of (tracks [] []) [] (moof 0 1 (traf 3 0 5 ∷ traf 7 0 6 ∷ []) ∷ moof 500 2 (traf 3 6 5 ∷ traf 7 5 5 ∷ []) ∷ [])
    ≡ Found (F8 7 500 (negsuc 0))
unfolding audit_of questions sweep_from when
case-moov-order = refl

-- two trafs of one track in a moof; and a traf that lasts for no time takes part (A42)
case-two-trafs : audit_of (tracks [] []) [] (moof 0 1 (traf 3 0 5 ∷ traf 7 0 6 ∷ traf 3 5 0 ∷ traf 3 4 1 ∷ []) ∷ []) ≡ Found (F8 3 0 (negsuc 0))
unfolding audit_of questions sweep_from when
case-two-trafs = refl

-- an audit that finds nothing of nothing says so (A66)
case-nothing : audit_of [] [] [] ≡ Clean 0 0 0
unfolding audit_of questions sweep_from when
case-nothing = refl
