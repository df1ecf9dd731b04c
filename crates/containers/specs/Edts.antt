-- The edits of a track (ISO/IEC 14496-12, 8.6.5): boxes, and where its edit list lies. Assumes nothing.
use Rattle.std.specs.Prelude.{ℕ, List, Result, Ok, Err}
use Rattle.places.specs.Kinds.{edts, elst}
use Rattle.rows.specs.Judge.{settle}
use Rattle.children.specs.Children.{whole_of, place_of}
use Rattle.containers.specs.declared.edts.Edts.{Edts}
use Rattle.numbers.specs.declared.Refusal.{Refusal}

-- no child's header has a fault, and the first of each type is told
abbrev pub edts_of : List ℕ → Result Edts Refusal
edts_of part = settle (Ok (record { elst = place_of edts elst part })) Err (whole_of edts part)
