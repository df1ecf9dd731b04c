-- What a movie says of its fragments (ISO/IEC 14496-12, 8.8.1): boxes, and where the first track's defaults lie.
-- Assumes nothing.
use Rattle.std.specs.Prelude.{ℕ, List, Result, Ok, Err}
use Rattle.places.specs.Kinds.{mvex, trex}
use Rattle.rows.specs.Judge.{settle}
use Rattle.children.specs.Children.{whole_of, place_of}
use Rattle.containers.specs.declared.mvex.Mvex.{Mvex}
use Rattle.numbers.specs.declared.Refusal.{Refusal}

-- no child's header has a fault, and the first of each type is told
abbrev pub mvex_of : List ℕ → Result Mvex Refusal
mvex_of part = settle (Ok (record { trex = place_of mvex trex part })) Err (whole_of mvex part)
