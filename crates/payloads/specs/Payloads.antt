-- The media data of a file: the payloads of its mdats (ISO/IEC 14496-12, 8.1.1; 01, Sweep; A39), by the boxes that are
-- recorded in the tables. Any tables mean something: a span ends with the file at the latest, and begins at its end at the
-- latest. Assumes nothing.
use Rattle.std.specs.Prelude.{ℕ, zero, suc, ◌+◌, ◌-◌, min, List, [], ◌∷◌, Bool, ◌&&◌, length, eqb}
use Rattle.numbers.specs.Field.{when, or_zero}
use Rattle.places.specs.Visit.{box_limit}
use Rattle.places.specs.Kinds.{mdat}
use Rattle.kin.specs.Kin.{Boxes, at, stands}
use Rattle.verdicts.specs.Findings.{Span}
use Rattle.payloads.specs.declared.Payload.{Payload}
use Rattle.payloads.specs.declared.Payload.TheVariants.{At, End}

-- box j is an mdat at the top
abbrev pub is_media : Boxes → ℕ → Bool
is_media t j = ◌&&◌ (stands t mdat j) (eqb (at t.parents j) 0)

-- a size of 1 says that the size follows the type, in 8 bytes (4.2)
abbrev pub header_of : List ℕ → ℕ → ℕ
header_of f start = when (eqb (or_zero 4 f start) 1) 16 8

-- where the payload of the box in row j ends, and where it begins
abbrev pub to_of : List ℕ → Boxes → ℕ → ℕ
to_of f t j = min (at t.starts j + at t.sizes j) (length f)

abbrev pub from_of : List ℕ → Boxes → ℕ → ℕ
from_of f t j = min (at t.starts j + header_of f (at t.starts j)) (to_of f t j)

abbrev pub span : ℕ → ℕ → Span
span from to = record { from = from; to = to }

-- of k rows from row i on: the payloads, in order
unfoldable pub payloads_in : List ℕ → Boxes → ℕ → ℕ → List Span
payloads_in f t zero i = []
payloads_in f t (suc k) i =
    when (is_media t i) (span (from_of f t i) (to_of f t i) ∷ payloads_in f t k (i + 1)) (payloads_in f t k (i + 1))

-- the first of them, and the row after it
unfoldable pub next_in : List ℕ → Boxes → ℕ → ℕ → Payload
next_in f t zero i = End
next_in f t (suc k) i = when (is_media t i) (At (from_of f t i) (to_of f t i) (i + 1)) (next_in f t k (i + 1))

-- of n recorded boxes from row i on; behind the last row of the tables there is no box
abbrev pub payloads_from : List ℕ → Boxes → ℕ → ℕ → List Span
payloads_from f t n i = payloads_in f t (min n box_limit - i) i

abbrev pub next_of : List ℕ → Boxes → ℕ → ℕ → Payload
next_of f t n i = next_in f t (min n box_limit - i) i
