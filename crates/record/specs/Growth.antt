-- A track that is being written, and a sample more (document 01, Limits): 4 where it has as many samples as a track may
-- have; else 9 where the sample's time, which is what those before it last, is no decode time (A13, 3), or where their
-- bytes or their durations together have no 64 bits. Assumes nothing.
use Rattle.std.specs.Prelude.{ℕ, ◌+◌, Bool, ◌&&◌, List, [], ◌∷◌, ltb, Result, Ok, Err}
use Rattle.numbers.specs.Field.{when}
use Rattle.numbers.specs.declared.Refusal.TheVariants as refusal
use Rattle.samples.specs.Lists.{end_bound, time_bound}
use Rattle.record.specs.declared.Track.{Track}
use Rattle.numbers.specs.declared.Refusal.{Refusal}

-- the most samples of a track
abbrev pub most : ℕ
most = 65536

-- a sample more
abbrev pub grown_by : Track → ℕ → ℕ → Track
grown_by t size duration = record { samples = t.samples + 1; bytes = t.bytes + size; duration = t.duration + duration }

-- its time is a decode time, and the sums have 64 bits
abbrev pub holds : Track → ℕ → ℕ → Bool
holds t size duration = ltb t.duration time_bound && (ltb (t.bytes + size) end_bound && ltb (t.duration + duration) end_bound)

abbrev pub added_to : Track → ℕ → ℕ → Result Track Refusal
added_to t size duration =
    when (ltb t.samples most) (when (holds t size duration) (Ok (grown_by t size duration)) (Err refusal.Overflow))
    (Err (refusal.Limit 0))

-- on with a record, or no further
abbrev pub onward : Result Track Refusal → (Track → Result Track Refusal) → Result Track Refusal
onward (Ok n) go = go n
onward (Err q) go = Err q

-- the samples of a column of sizes and one of durations, one after the other, as many as both have; the first refusal
unfoldable pub all_to : Track → List ℕ → List ℕ → Result Track Refusal
all_to t [] ds = Ok t
all_to t (s ∷ ss) [] = Ok t
all_to t (s ∷ ss) (d ∷ ds) = onward (added_to t s d) (λ n. all_to n ss ds)

-- IN PLACE

-- an answer, with the record as it is left
pub data Outcome : Type 0 where
  outcome : Result (Unit {0}) Refusal → Track → Outcome

abbrev pub answer_of : Result Track Refusal → Result (Unit {0}) Refusal
answer_of (Ok t) = (Ok tt)
answer_of (Err q) = Err q

-- a refusal leaves the record as it was
abbrev pub afterwards : Track → Result Track Refusal → Track
afterwards t (Ok n) = n
afterwards t (Err q) = t

abbrev pub outcome_of : Track → ℕ → ℕ → Outcome
outcome_of t size duration = outcome (answer_of (added_to t size duration)) (afterwards t (added_to t size duration))

-- INSIDE

-- the record, where the answer says that it has the sample
abbrev pub whole_of : Result (Unit {0}) Refusal → Track → Result Track Refusal
whole_of (Ok tt) t = Ok t
whole_of (Err q) t = Err q
