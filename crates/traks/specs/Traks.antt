-- What the tracks of a file tell, by the boxes that are recorded in the tables: their boxes (ISO/IEC 14496-12, 8.3.1), the
-- number of each (8.3.2), and where its sample tables lie (8.5.1). A trak is named by its row and 1. Of a box that is
-- missing in its parent the row is 0, which names the file: none of the boxes below stands in its place there.
-- Assumes nothing.
use Rattle.std.specs.Prelude.{ℕ, ◌-◌, List, eqb, Result, Option, Some, None}
use Rattle.numbers.specs.Field.{when}
use Rattle.places.specs.Kinds.{moov, trak, tkhd, mdia, minf, stbl, stts, ctts, stsc, stsz, stco, co64, stss}
use Rattle.keys.specs.Key.{key_of}
use Rattle.kin.specs.Kin.{Boxes, at}
use Rattle.contents.specs.Held.{part_of, number_in}
use Rattle.inside.specs.Inside.{next_of, inside_of, child}
use Rattle.stbl.specs.Stbl.{track_of}
use Rattle.stbl.specs.declared.Boxes as places
use Rattle.tables.specs.declared.Track.{Track}
use Rattle.numbers.specs.declared.Refusal.{Refusal}

-- of n recorded boxes: the traks of the moov, and the first of them from row `from` on
abbrev pub traks_of : Boxes → ℕ → List ℕ
traks_of t n = inside_of t n trak (child t n moov 0) 0

abbrev pub next_trak : Boxes → ℕ → ℕ → ℕ
next_trak t n from = next_of t n trak (child t n moov 0) from

-- the number in the tkhd of a trak; 0 where there is none
abbrev pub number_of : List ℕ → Boxes → ℕ → ℕ → ℕ
number_of f t n trak =
    when (eqb (child t n tkhd trak) 0) 0 (number_in (key_of tkhd (part_of f t (child t n tkhd trak - 1))))

-- the box in row j and 1, as far as there is one
abbrev pub span_in : Boxes → ℕ → Option (ℕ × ℕ)
span_in t row = when (eqb row 0) None (Some (at t.starts (row - 1), at t.sizes (row - 1)))

-- where the boxes of sample tables lie, of the parent p
abbrev pub boxes_in : Boxes → ℕ → ℕ → places.Boxes
boxes_in t n p = record {
  stts = span_in t (child t n stts p);
  ctts = span_in t (child t n ctts p);
  stsc = span_in t (child t n stsc p);
  stsz = span_in t (child t n stsz p);
  stco = span_in t (child t n stco p);
  co64 = span_in t (child t n co64 p);
  stss = span_in t (child t n stss p);
}

-- the sample tables of a trak: those of the stbl in the minf in its mdia
unfoldable pub tables_of : List ℕ → Boxes → ℕ → ℕ → Result Track Refusal
tables_of f t n trak = track_of f (boxes_in t n (child t n stbl (child t n minf (child t n mdia trak))))
