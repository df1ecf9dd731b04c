-- The children of a box whose whole content is boxes, walked by their headers in file order (ISO/IEC 14496-12, 4.2).
-- What lies in a child is not looked at. Positions are counted from the box's first byte. Assumes nothing.
use Rattle.std.specs.Prelude.{ℕ, zero, suc, ◌+◌, ◌-◌, List, [], false, length, take, drop, eqb, ltb, Result, Option, Ok, Err, Some, None}
use Rattle.numbers.specs.Field.{when}
use Rattle.numbers.specs.declared.Refusal.{Refusal}
use Rattle.put.specs.Put.{Wrote}
use Rattle.boxes.specs.Header.{header_of}
use Rattle.layout.specs.Read.{read_of, rest_of, zeros}
use Rattle.layout.specs.Write.{write_of, padded}
use Rattle.layout.specs.declared.Field.{Field}
use Rattle.layout.specs.declared.read.Fields.{Fields}
use Rattle.boxes.specs.declared.header.Header.{Header}

-- children in file order, each with its type and its place, up to the end or to the first fault
pub data Row : Type 0 where
  end : Row
  fault : Refusal → Row
  box : ℕ → ℕ → Row → Row

-- by a header at `at`: its box and what comes behind it, or its fault
abbrev pub headed : ℕ → (ℕ → Row) → Result Header Refusal → Row
headed at next (Ok h) = box h.kind at (next (at + h.size))
headed at next (Err q) = fault q

-- the boxes from `at` on, up to where the bytes end. A box has 8 bytes at least, so that no more than f boxes fit where
-- f bytes are left.
unfoldable pub row_of : ℕ → List ℕ → ℕ → Row
row_of zero s at = end
row_of (suc f) s at = when (ltb at (length s)) (headed at (row_of f s) (header_of s at false)) end

-- the first of this type, unless a fault comes before it
unfoldable pub first_in : ℕ → Row → Result (Option ℕ) Refusal
first_in kind end = (Ok None)
first_in kind (fault q) = Err q
first_in kind (box k at row) = when (eqb k kind) (Ok (Some at)) (first_in kind row)

-- the i-th, counted from 0, unless a fault comes before it
unfoldable pub nth_in : ℕ → Row → Result (Option ℕ) Refusal
nth_in i end = (Ok None)
nth_in i (fault q) = Err q
nth_in i (box k at row) = when (eqb i 0) (Ok (Some at)) (nth_in (i - 1) row)

-- the first fault
unfoldable pub whole_in : Row → Result (Unit {0}) Refusal
whole_in end = (Ok tt)
whole_in (fault q) = Err q
whole_in (box k at row) = whole_in row

-- a container has no fields of its own
abbrev pub fields : List Field
fields = padded []

-- the children of a box that was read up to them, or its own fault: its header's, or 8 at 4 for another type
abbrev pub inside : List ℕ → Result Fields Refusal → Row
inside part (Ok f) = row_of (length (take f.end part) - f.place) (take f.end part) f.place
inside part (Err q) = fault q

abbrev pub children_of : ℕ → List ℕ → Row
children_of parent part = inside part (read_of parent fields part)

abbrev pub first_of : ℕ → ℕ → List ℕ → Result (Option ℕ) Refusal
first_of parent kind part = first_in kind (children_of parent part)

abbrev pub whole_of : ℕ → List ℕ → Result (Unit {0}) Refusal
whole_of parent part = whole_in (children_of parent part)

-- the place alone
abbrev pub placed : Result (Option ℕ) Refusal → Option ℕ
placed (Ok (Some p)) = Some p
placed (Ok None) = None
placed (Err q) = None

abbrev pub place_of : ℕ → ℕ → List ℕ → Option ℕ
place_of parent kind part = placed (first_of parent kind part)

-- the children's bytes, and a box around them
abbrev pub content_of : ℕ → List ℕ → List ℕ
content_of parent part = rest_of (read_of parent fields part) part

abbrev pub container_in : ℕ → List ℕ → List ℕ → Wrote
container_in parent children out = write_of parent fields (zeros 24) children out

-- the bytes of a box, from its header at `at` to its end
abbrev pub boxed : List ℕ → ℕ → Result Header Refusal → List ℕ
boxed s at (Ok h) = take h.size (drop at s)
boxed s at (Err q) = []

-- of a box that was found in bytes that are boxes; none where it was not
abbrev pub bytes_of : List ℕ → Result (Option ℕ) Refusal → List ℕ
bytes_of s (Ok (Some p)) = boxed s p (header_of s p false)
bytes_of s (Ok None) = []
bytes_of s (Err q) = []

-- the first of a type, and the i-th
abbrev pub child_of : ℕ → List ℕ → List ℕ
child_of kind s = bytes_of s (first_in kind (row_of (length s) s 0))

abbrev pub nth_of : ℕ → List ℕ → List ℕ
nth_of i s = bytes_of s (nth_in i (row_of (length s) s 0))
