use Rattle.lanes.specs.Lane.{places_at}
use Rattle.tables.specs.Rows.{rows_of}
use Rattle.tables.specs.Tables.{chunks}
use mathlib.Core.List.{List}
use Prim.Native.Nat.{ℕ, ◌-◌}
use mathlib.Core.Path.{◌≡◌}
use Rattle.lanes.proofs.place_ready.Given as goal

abbrev pub invariant-loop-left : goal.invariant-loop-left
invariant-loop-left l =
    (ss : List ℕ) → places_at (rows_of l.file l.rows) (chunks l.file l.t) l.left l.at l.chunk l.runs ss ≡ places_at (rows_of l.file l.rows) (chunks l.file l.t) l.initial.left l.initial.at l.initial.chunk l.initial.runs ss

abbrev pub decreases-loop-left : goal.decreases-loop-left
decreases-loop-left l =
    l.t.count - l.chunk
