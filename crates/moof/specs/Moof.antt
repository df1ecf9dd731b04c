-- A fragment of a movie (ISO/IEC 14496-12, 8.8.4): boxes, and where its header and the first track's part lie.
-- Assumes nothing.
use Rattle.std.specs.Prelude.{ℕ, List, Result, Ok, Err}
use Rattle.places.specs.Kinds.{moof, mfhd, traf}
use Rattle.rows.specs.Judge.{settle}
use Rattle.children.specs.Children.{whole_of, place_of}
use Rattle.moof.specs.declared.Moof.{Moof}
use Rattle.numbers.specs.declared.Refusal.{Refusal}

-- no child's header has a fault, and the first of each type is told
abbrev pub moof_of : List ℕ → Result Moof Refusal
moof_of part = settle (Ok (record { mfhd = place_of moof mfhd part; traf = place_of moof traf part })) Err (whole_of moof part)
