-- What clean means, in plain statements: no sweep, no order of questions (01, Audit findings, and `audit-clean` in
-- proofs/Clean.antt, which says that these are what the audit decides). Assumes nothing.
use Rattle.std.specs.Prelude.{ℕ, ◌+◌, ◌≤◌, ◌<◌, ◌≡◌, ◌⊎◌, List, [], ◌∷◌, ◌++◌, true, ◌&&◌, ltb, leb}
use Rattle.numbers.specs.Field.{when}
use Rattle.samples.specs.declared.Sample.{Sample}
use Rattle.samples.specs.Lists.{bytes_of}
use Rattle.verdicts.specs.Findings.{Track, track, samples_of, Span}
use Rattle.verdicts.specs.Sweep.{sum_all}
use Rattle.verdicts.specs.Fragments.{Traf, Moof, own_trafs, next_number, next_time}

abbrev pub All : {A : Type 0} → (A → Type 0) → List A → Type 0
All P [] = Unit {0}
All P (x ∷ l) = P x × All P l

-- of the first, if there is one
abbrev pub First : {A : Type 0} → (A → Type 0) → List A → Type 0
First P [] = Unit {0}
First P (x ∷ l) = P x

-- of every two neighbours
abbrev pub Neighbours : {A : Type 0} → (A → A → Type 0) → List A → Type 0
Neighbours R [] = Unit {0}
Neighbours R (x ∷ l) = First (R x) l × Neighbours R l

-- of every sample of every track
abbrev pub AllIn : (Sample → Type 0) → List Track → Type 0
AllIn P ts = All (λ t. All P (samples_of t)) ts

-- of every two neighbours of every track
abbrev pub NeighboursIn : (Sample → Sample → Type 0) → List Track → Type 0
NeighboursIn R ts = All (λ t. Neighbours R (samples_of t)) ts

-- 1 if byte b is one of s's, else 0
abbrev pub holds : ℕ → Sample → ℕ
holds b s = when (leb s.offset b && ltb b (s.offset + s.size)) 1 0

-- how many samples of all tracks hold byte b
abbrev pub count : ℕ → List Track → ℕ
count b ts = sum_all (holds b) ts

-- b is a byte of one of the payloads
abbrev pub InSome : ℕ → List Span → Type 0
InSome b [] = ⊥
InSome b (c ∷ m) = ((c.from ≤ b) × (b < c.to)) ⊎ InSome b m

-- s lies whole in one of the payloads
abbrev pub Within : List Span → Sample → Type 0
Within [] s = ⊥
Within (c ∷ m) s = ((c.from ≤ s.offset) × (s.offset + s.size ≤ c.to)) ⊎ Within m s

-- a sample that has bytes, all of them in one payload
abbrev pub Good : List Span → Sample → Type 0
Good m s = (0 < s.size) × Within m s

-- s ends before u begins
abbrev pub Earlier : Sample → Sample → Type 0
Earlier s u = s.offset + s.size ≤ u.offset

-- s lasts, and something follows it
abbrev pub Lasts : Sample → Sample → Type 0
Lasts s u = 0 < s.duration

-- u comes when s is over; u comes later
abbrev pub Next : Sample → Sample → Type 0
Next s u = u.time ≡ s.time + s.duration

abbrev pub Later : Sample → Sample → Type 0
Later s u = s.time < u.time

-- payloads in the order of the file, as mdats have them
abbrev pub InOrder : List Span → Type 0
InOrder [] = Unit {0}
InOrder (c ∷ m) = (c.from ≤ c.to) × First (λ d. c.to ≤ d.from) m × InOrder m

-- each byte of each payload is in exactly one sample of one track; no sample is empty, and each lies whole in one
-- payload; each track's samples lie in the order of the file
pub record Covered (m : List Span) (ts : List Track) : Type 0 where
  pub once : (b : ℕ) → InSome b m → count b ts ≡ 1
  pub whole : AllIn (Good m) ts
  pub order : NeighboursIn Earlier ts

abbrev pub Agrees : Track → Type 0
Agrees (track n a l) = a ≡ true

-- the trafs of a track, through the file
abbrev pub trafs_of : ℕ → List Moof → List Traf
trafs_of t [] = []
trafs_of t (m ∷ ms) = own_trafs t m.trafs ++ trafs_of t ms

abbrev pub FollowsInTime : List Moof → Track → Type 0
FollowsInTime fs (track n a l) = Neighbours (λ x y. y.tfdt ≡ next_time x) (trafs_of n fs)

-- F1 passes for every track; the media data are covered; no duration before a track's last is 0; fragments follow on in
-- number, and each track's in time
pub record CleanFile (ts : List Track) (m : List Span) (fs : List Moof) : Type 0 where
  pub agree : All Agrees ts
  pub media : Covered m ts
  pub lasting : NeighboursIn Lasts ts
  pub numbers : Neighbours (λ x y. y.number ≡ next_number x.number) fs
  pub times : All (FollowsInTime fs) ts

-- the sizes of all samples of all tracks together
abbrev pub sizes_of : List Track → ℕ
sizes_of [] = 0
sizes_of (track n a l ∷ ts) = bytes_of l + sizes_of ts
