-- The boxes of a file, recorded in tables that were empty (document 01, "each set up empty by one repeat"; D9). Assumes
-- nothing.
use Rattle.std.specs.Prelude.{ℕ, List, replicate}
use Rattle.places.specs.Visit.{box_limit}
use Rattle.tree.specs.Tables.{Tables, tables, Out, out, scan_of}
use Rattle.tree.specs.declared.Scanned.{Scanned}
use Rattle.kin.specs.Kin.{Boxes, boxes}
use Rattle.opening.specs.Opening.{recorded}

abbrev pub empty : Tables
empty =
    tables (replicate box_limit 0) (replicate box_limit 0) (replicate box_limit 0) (replicate box_limit 0) (replicate box_limit 0) (replicate box_limit 0)

abbrev pub answer_in : Out Scanned → Scanned
answer_in (out a t) = a

abbrev pub boxes_by : Tables → Boxes
boxes_by (tables a b k p d l) = boxes a b k p l

abbrev pub boxes_in : Out Scanned → Boxes
boxes_in (out a t) = boxes_by t

-- what was recorded of a file, whether or not there was a fault: the answer, the boxes, and how many
unfoldable pub scanned_of : List ℕ → Scanned
scanned_of f = answer_in (scan_of f empty)

unfoldable pub boxes_of : List ℕ → Boxes
boxes_of f = boxes_in (scan_of f empty)

abbrev pub count_of : List ℕ → ℕ
count_of f = recorded (scanned_of f)
