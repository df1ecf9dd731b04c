-- One box of a row of boxes: the limits at its header, its place, and the row of boxes in it. Assumes nothing.
use Rattle.std.specs.Prelude.{ℕ, ◌+◌, ◌-◌, List, Bool, true, false, ◌&&◌, length, take, drop, ltb, leb, eqb, Result, Ok, Err}
use Rattle.numbers.specs.Field.{when, or_zero}
use Rattle.numbers.specs.Refusals.{detail}
use Rattle.numbers.specs.declared.Refusal.TheVariants as refusal
use Rattle.numbers.specs.declared.Refusal.{Refusal}
use Rattle.boxes.specs.Header.{header_of}
use Rattle.boxes.specs.declared.header.Header.{Header}
use Rattle.places.specs.Kinds.{mp4a}
use Rattle.places.specs.Places.{places, listed, held_of}
use Rattle.places.specs.declared.table.Inside.{Inside}
use Rattle.places.specs.declared.table.Inside.TheVariants.{Nothing, Boxes, Counted}
use Rattle.places.specs.declared.Node.{Node}
use Rattle.places.specs.declared.Row.{Row}

-- the deepest level, a box at the top being at 1; and the most headers that are read (document 01, Limits)
abbrev pub depth_limit : ℕ
depth_limit = 10

abbrev pub box_limit : ℕ
box_limit = 4096

-- at a box that starts at `at`: no level is left, or no row in the tables
abbrev pub limited : ℕ → ℕ → ℕ → Result Header Refusal → Result Header Refusal
limited at left count on = when (eqb left 0) (Err (refusal.Depth at)) (when (leb box_limit count) (Err (refusal.Limit at)) on)

-- a header's own fault at the box's first byte comes before the limits, one further on after them (A5)
abbrev pub admitted : ℕ → ℕ → ℕ → Result Header Refusal → Result Header Refusal
admitted at left count (Ok h) = limited at left count (Ok h)
admitted at left count (Err q) = when (eqb (detail q) at) (Err q) (limited at left count (Err q))

-- an mp4a entry of a version other than 0 is QuickTime's and not read (A24); the version stands 8 bytes into its content
abbrev pub own_entry : ℕ → List ℕ → Bool
own_entry kind content = when (eqb kind mp4a) (eqb (or_zero 2 content 8) 0) true

-- the bytes from a position to an end: a box's content is what lies after its header
abbrev pub content_of : List ℕ → ℕ → ℕ → List ℕ
content_of s first end = take (end - first) (drop first s)

-- in its place: its parent is, and the two stand in the table (A2)
abbrev pub placed_in : Row → Header → List ℕ → Bool
placed_in row h content = ◌&&◌ (◌&&◌ row.placed (listed row.kind h.kind places)) (own_entry h.kind content)

abbrev pub node_of : ℕ → Header → ℕ → Row → Bool → Node
node_of at h left row placed =
    record { start = at; size = h.size; kind = h.kind; parent = row.parent; depth = depth_limit + 1 - left; placed = placed }

-- where the boxes in a box begin: after `skip` bytes of its content, or at its end where there are fewer
abbrev pub start_of : ℕ → List ℕ → ℕ → ℕ
start_of first content skip = when (ltb (length content) skip) (first + length content) (first + skip)

abbrev pub row : ℕ → ℕ → Bool → ℕ → ℕ → Bool → Row
row at entries counted parent kind placed =
    record { at = at; entries = entries; counted = counted; parent = parent; kind = kind; placed = placed }

-- the row of boxes in a box: none, those up to its end (no more than it has bytes), or as many as the count after
-- version and flags says (A47)
abbrev pub row_of : ℕ → List ℕ → ℕ → ℕ → Bool → Inside → Row
row_of first content me kind placed Nothing = row first 0 true me kind placed
row_of first content me kind placed (Boxes skip) = row (start_of first content skip) (length content) false me kind placed
row_of first content me kind placed (Counted skip) = row (start_of first content skip) (or_zero 4 content 4) true me kind placed

-- a box that is admitted as the count-th: what is recorded of it, and the row in it
abbrev pub seen : List ℕ → ℕ → ℕ → Row → ℕ → Result Header Refusal → Result (Node × Row) Refusal
seen s at left row count (Ok h) =
    let content = content_of s (at + h.length) (at + h.size) in
    let placed = placed_in row h content in
    Ok (node_of at h left row placed, row_of (at + h.length) content (count + 1) h.kind placed (held_of h.kind placed))
seen s at left row count (Err q) = Err q

abbrev pub visit_of : List ℕ → ℕ → ℕ → Row → ℕ → Result (Node × Row) Refusal
visit_of s at left row count = seen s at left row count (admitted at left count (header_of s at (eqb row.parent 0)))
