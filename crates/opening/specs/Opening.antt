-- Why a file is refused by its boxes (document 01, Answers; A1, A30). Its boxes were recorded in the tables up to the
-- first fault of a header. The first fault in the content of a recorded box goes before that fault, since it stands
-- before it in the file; then comes the fault of the header; and in a file without either the first needed box that is
-- missing is told (with its four letters: A12). Assumes nothing.
use Rattle.std.specs.Prelude.{ℕ, zero, suc, ◌+◌, min, List, Result, Option, Ok, Err, Some, None}
use Rattle.numbers.specs.declared.Refusal.TheVariants as refusal
use Rattle.places.specs.Visit.{box_limit}
use Rattle.rows.specs.Judge.{settle}
use Rattle.kin.specs.Kin.{Boxes}
use Rattle.tree.specs.declared.Scanned.{Scanned}
use Rattle.tree.specs.declared.Scanned.TheVariants.{Whole, Fault}
use Rattle.contents.specs.Contents.{box_fault}
use Rattle.needed.specs.Needed.{missing_of}
use Rattle.numbers.specs.declared.Refusal.{Refusal}

-- the first fault of k boxes from row i on, where n are recorded
unfoldable pub first_fault : List ℕ → Boxes → ℕ → ℕ → ℕ → Result (Unit {0}) Refusal
first_fault f t n zero i = Ok tt
first_fault f t n (suc k) i = settle (first_fault f t n k (i + 1)) Err (box_fault f t n i)

-- of all n; behind the last row of the tables there is no box
abbrev pub content_fault : List ℕ → Boxes → ℕ → Result (Unit {0}) Refusal
content_fault f t n = first_fault f t n (min n box_limit) 0

abbrev pub lacking : Option ℕ → Result (Unit {0}) Refusal
lacking None = Ok tt
lacking (Some kind) = Err (refusal.Missing kind)

-- how many boxes are recorded
abbrev pub recorded : Scanned → ℕ
recorded (Whole n) = n
recorded (Fault n q) = n

-- what is told where no recorded box has a fault
abbrev pub rest_of : List ℕ → Boxes → Scanned → Result (Unit {0}) Refusal
rest_of f t (Whole n) = lacking (missing_of f t n)
rest_of f t (Fault n q) = Err q

unfoldable pub refusal_of : List ℕ → Boxes → Scanned → Result (Unit {0}) Refusal
refusal_of f t scanned = settle (rest_of f t scanned) Err (content_fault f t (recorded scanned))
