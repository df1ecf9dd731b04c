-- Where the media of a track lie (ISO/IEC 14496-12, 8.7.1): boxes, and where the list of references lies. Assumes nothing.
use Rattle.std.specs.Prelude.{ℕ, List, Result, Ok, Err}
use Rattle.places.specs.Kinds.{dinf, dref}
use Rattle.rows.specs.Judge.{settle}
use Rattle.children.specs.Children.{whole_of, place_of}
use Rattle.containers.specs.declared.dinf.Dinf.{Dinf}
use Rattle.numbers.specs.declared.Refusal.{Refusal}

-- no child's header has a fault, and the first of each type is told
abbrev pub dinf_of : List ℕ → Result Dinf Refusal
dinf_of part = settle (Ok (record { dref = place_of dinf dref part })) Err (whole_of dinf part)
