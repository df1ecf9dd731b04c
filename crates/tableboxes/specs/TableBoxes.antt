-- Where the boxes of a track's tables lie in an stbl (ISO/IEC 14496-12, 8.5.1): the first of each type. Assumes nothing.
use Rattle.std.specs.Prelude.{ℕ, List, false, Result, Option, Ok, Err, Some, None}
use Rattle.boxes.specs.Header.{header_of}
use Rattle.places.specs.Kinds as kinds
use Rattle.rows.specs.Judge.{settle}
use Rattle.children.specs.Children.{whole_of, place_of}
use Rattle.stbl.specs.declared.Boxes.{Boxes}
use Rattle.numbers.specs.declared.Refusal.{Refusal}
use Rattle.boxes.specs.declared.header.Header.{Header}

abbrev pub span_by : ℕ → Result Header Refusal → Option (ℕ × ℕ)
span_by at (Ok h) = Some (at, h.size)
span_by at (Err q) = None

abbrev pub span_at : List ℕ → ℕ → Option (ℕ × ℕ)
span_at part at = span_by at (header_of part at false)

abbrev pub span_in : List ℕ → Option ℕ → Option (ℕ × ℕ)
span_in part None = None
span_in part (Some at) = span_at part at

-- the first child of this type
abbrev pub span_of : ℕ → List ℕ → Option (ℕ × ℕ)
span_of kind part = span_in part (place_of kinds.stbl kind part)

abbrev pub boxes_in : List ℕ → Boxes
boxes_in part = record {
  stts = span_of kinds.stts part;
  ctts = span_of kinds.ctts part;
  stsc = span_of kinds.stsc part;
  stsz = span_of kinds.stsz part;
  stco = span_of kinds.stco part;
  co64 = span_of kinds.co64 part;
  stss = span_of kinds.stss part;
}

-- no child's header has a fault, and the first of each type is told, from the first byte of the stbl on
abbrev pub boxes_of : List ℕ → Result Boxes Refusal
boxes_of part = settle (Ok (boxes_in part)) Err (whole_of kinds.stbl part)
