-- The audit's findings, F1 to F8, with the track, sample, position and gap that each gives, 0 where it gives none (01,
-- Audit findings; A32). A question of the audit passes, or finds. Assumes nothing.
use Rattle.std.specs.Prelude.{ℕ, List, [], ◌∷◌, Bool, ℤ, pos, Option, Some, None}
use Rattle.samples.specs.declared.Sample.{Sample}
use Rattle.verdicts.specs.declared.Finding.{Finding}

-- a track: its number, whether its tables' counts agree, and its samples, or those of its that are left
pub data Track : Type 0 where
  track : (number : ℕ) (agrees : Bool) (samples : List Sample) → Track

abbrev pub samples_of : Track → List Sample
samples_of (track n a l) = l

-- a sample, and the number of its track
pub record Claim : Type 0 where
  pub track : ℕ
  pub sample : Sample

abbrev pub claim : ℕ → Sample → Claim
claim n s = record { track = n; sample = s }

-- the bytes from `from` up to and not with `to`: a payload
pub record Span : Type 0 where
  pub from : ℕ
  pub to : ℕ

-- F1 table counts differ
abbrev pub F1 : ℕ → Finding
F1 t = record { number = 1; track = t; sample = 0; position = 0; gap = pos 0 }

-- F2 zero size
abbrev pub F2 : Claim → Finding
F2 c = record { number = 2; track = c.track; sample = c.sample.number; position = 0; gap = pos 0 }

-- F3 zero duration before the track's last sample
abbrev pub F3 : Claim → Finding
F3 c = record { number = 3; track = c.track; sample = c.sample.number; position = 0; gap = pos 0 }

-- F4 sample outside media data
abbrev pub F4 : Claim → Finding
F4 c = record { number = 4; track = c.track; sample = c.sample.number; position = c.sample.offset; gap = pos 0 }

-- F5 overlap or backward order
abbrev pub F5 : Claim → Finding
F5 c = record { number = 5; track = c.track; sample = c.sample.number; position = c.sample.offset; gap = pos 0 }

-- F6 unclaimed byte, at p
abbrev pub F6 : ℕ → Finding
F6 p = record { number = 6; track = 0; sample = 0; position = p; gap = pos 0 }

-- F7 fragment number break, in the moof that starts there
abbrev pub F7 : ℕ → Finding
F7 at = record { number = 7; track = 0; sample = 0; position = at; gap = pos 0 }

-- F8 fragment time gap, of that track in the moof that starts there
abbrev pub F8 : ℕ → ℕ → ℤ → Finding
F8 t at g = record { number = 8; track = t; sample = 0; position = at; gap = g }

pub data Answer : Type 0 where
  passes : Answer
  found : Finding → Answer

-- the first that is found
abbrev pub first_found : List Answer → Answer
first_found [] = passes
first_found (passes ∷ l) = first_found l
first_found (found f ∷ l) = found f

-- an answer as the code tells it
abbrev pub asked : Answer → Option Finding
asked passes = None
asked (found f) = Some f
