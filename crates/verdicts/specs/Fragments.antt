-- F7 and F8: fragments follow on in number and in time (01, Fragments; A34, A42). Moof by moof in the order of the file:
-- first its number, then the times, by track in the order of the moov, one track's trafs in the order of the file. The
-- first number and each track's first time are free. Assumes nothing.
use Rattle.std.specs.Prelude.{ℕ, ◌+◌, ◌%◌, ◌^◌, List, [], ◌∷◌, ◌++◌, Bool, true, ℤ, pos, eqb}
use Rattle.std.proofs.Math.IntN.{sub_ℕ}
use Rattle.numbers.specs.Field.{when}
use Rattle.verdicts.specs.Findings.{Track, track, F7, F8, Answer, passes, found}

-- a traf: its track's number, its tfdt, and the durations of its samples together
pub record Traf : Type 0 where
  pub track : ℕ
  pub tfdt : ℕ
  pub lasts : ℕ

-- a moof: its start, its sequence number, its trafs
pub record Moof : Type 0 where
  pub start : ℕ
  pub number : ℕ
  pub trafs : List Traf

-- what must come next, if anything came before
pub data Due : Type 0 where
  free : Due
  due : ℕ → Due

abbrev pub fits : Due → ℕ → Bool
fits free n = true
fits (due e) n = eqb n e

abbrev pub gap_of : Due → ℕ → ℤ
gap_of free n = pos 0
gap_of (due e) n = sub_ℕ n e

-- one more, rolling to 0 behind the largest number of 32 bits
abbrev pub next_number : ℕ → ℕ
next_number n = (n + 1) % 2 ^ 32

abbrev pub next_time : Traf → ℕ
next_time x = x.tfdt + x.lasts

-- a track, and when its next traf must begin
pub record Clock : Type 0 where
  pub track : ℕ
  pub next : Due

abbrev pub clocks_of : List Track → List Clock
clocks_of [] = []
clocks_of (track n a l ∷ ts) = record { track = n; next = free } ∷ clocks_of ts

-- the trafs of a track
abbrev pub own_trafs : ℕ → List Traf → List Traf
own_trafs t [] = []
own_trafs t (x ∷ l) = when (eqb x.track t) (x ∷ own_trafs t l) (own_trafs t l)

-- F7
abbrev pub numbered : Due → Moof → Answer
numbered d m = when (fits d m.number) passes (found (F7 m.start))

-- F8, of one track in the moof that starts at `at`
abbrev pub timed : ℕ → ℕ → Due → List Traf → List Answer
timed at t d [] = []
timed at t d (x ∷ l) = when (fits d x.tfdt) passes (found (F8 t at (gap_of d x.tfdt))) ∷ timed at t (due (next_time x)) l

abbrev pub due_after : Due → List Traf → Due
due_after d [] = d
due_after d (x ∷ l) = due_after (due (next_time x)) l

-- F8, of every track in a moof; and the tracks' clocks after it
abbrev pub timed_all : Moof → List Clock → List Answer
timed_all m [] = []
timed_all m (c ∷ cs) = timed m.start c.track c.next (own_trafs c.track m.trafs) ++ timed_all m cs

abbrev pub clocks_after : Moof → List Clock → List Clock
clocks_after m [] = []
clocks_after m (c ∷ cs) = record { track = c.track; next = due_after c.next (own_trafs c.track m.trafs) } ∷ clocks_after m cs

abbrev pub follow_from : Due → List Clock → List Moof → List Answer
follow_from d cs [] = []
follow_from d cs (m ∷ ms) = numbered d m ∷ (timed_all m cs ++ follow_from (due (next_number m.number)) (clocks_after m cs) ms)

abbrev pub follow : List Track → List Moof → List Answer
follow ts ms = follow_from free (clocks_of ts) ms
