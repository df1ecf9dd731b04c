-- Whether a recorded box has a fault, and which: of its place among others, of the number that is held against them,
-- or of its own content (document 01, Answers; A1, A50). Assumes nothing.
use Rattle.std.specs.Prelude.{ℕ, List, eqb, ltb, Result, Option, Ok, Err, Some, None}
use Rattle.numbers.specs.Field.{when}
use Rattle.numbers.specs.Refusals.{moved}
use Rattle.numbers.specs.declared.Refusal.TheVariants as refusal
use Rattle.places.specs.Visit.{box_limit}
use Rattle.readers.specs.Readers.{fault_of}
use Rattle.kin.specs.Kin.{Boxes, at, twice, crowded}
use Rattle.contents.specs.Held.{part_of, key_at, refusal_of}
use Rattle.numbers.specs.declared.Refusal.{Refusal}

abbrev pub moved_all : ℕ → Result (Unit {0}) Refusal → Result (Unit {0}) Refusal
moved_all start (Ok tt) = Ok tt
moved_all start (Err q) = Err (moved start q)

-- what its own reader refuses
abbrev pub content_of : List ℕ → Boxes → ℕ → Result (Unit {0}) Refusal
content_of s t i = moved_all (at t.starts i) (fault_of (at t.kinds i) (part_of s t i))

-- a refusal of a box that begins at `start`, or else what follows
abbrev pub unless : ℕ → Option Refusal → Result (Unit {0}) Refusal → Result (Unit {0}) Refusal
unless start None on = on
unless start (Some q) on = Err (moved start q)

-- its number is judged, then its content
abbrev pub numbered : List ℕ → Boxes → ℕ → ℕ → Option (ℕ × ℕ) → Result (Unit {0}) Refusal
numbered s t n i None = content_of s t i
numbered s t n i (Some (x, p)) = unless (at t.starts i) (refusal_of s t n i x p) (content_of s t i)

-- the fault of box i, where n boxes are recorded; a box that does not stand in its place has none, and behind the last
-- row of the tables there is no box
abbrev pub box_fault : List ℕ → Boxes → ℕ → ℕ → Result (Unit {0}) Refusal
box_fault s t n i =
    when (ltb i box_limit)
    (when (eqb (at t.placed i) 1)
    (when (twice t i) (Err (refusal.Twice (at t.starts i)))
    (when (crowded t i) (Err (refusal.Limit (at t.starts i))) (numbered s t n i (key_at s t i))))
    (Ok tt))
    (Ok tt)
