-- The part of a track in a fragment (ISO/IEC 14496-12, 8.8.6): boxes, and where its header, its time and its first run
-- lie. Assumes nothing.
use Rattle.std.specs.Prelude.{ℕ, List, Result, Ok, Err}
use Rattle.places.specs.Kinds.{traf, tfhd, tfdt, trun}
use Rattle.rows.specs.Judge.{settle}
use Rattle.children.specs.Children.{whole_of, place_of}
use Rattle.traf.specs.declared.Traf.{Traf}
use Rattle.numbers.specs.declared.Refusal.{Refusal}

-- no child's header has a fault, and the first of each type is told
abbrev pub traf_of : List ℕ → Result Traf Refusal
traf_of part = settle (Ok (record { tfhd = place_of traf tfhd part; tfdt = place_of traf tfdt part; trun = place_of traf trun part })) Err (whole_of traf part)
