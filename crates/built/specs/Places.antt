-- Where the boxes of a sample table lie that is written from samples (SampleTable.antt of sampletable) and begins at
-- `start` in a file: behind its own header and the sample descriptions, one behind the other. Assumes nothing.
use Rattle.std.specs.Prelude.{ℕ, ◌+◌, ◌*◌, List, Bool, true, not, length, Option, Some, None}
use Rattle.numbers.specs.Field.{when}
use Rattle.sampletable.specs.declared.Table.{Table}
use Rattle.sampletable.specs.declared.Table.TheVariants.{Stts, Ctts, Stsc, Stsz, Offsets, Stss}
use Rattle.sampletable.specs.SampleTable.{wide_in, is_there, table_of}
use Rattle.stbl.specs.declared.Boxes.{Boxes}

module _ (scale : ℕ) (rs : List ℕ) (n : ℕ) where
  -- the place behind a table's box
  abbrev pub behind : Table → ℕ → ℕ
  behind t at = at + length (table_of t scale rs n) * 4

  -- a table's box, where it is written and a test says so
  abbrev pub span_if : Bool → Table → ℕ → Option (ℕ × ℕ)
  span_if there t at = when there (Some (at, length (table_of t scale rs n) * 4)) None

  abbrev pub boxes_from : ℕ → Boxes
  boxes_from at = record {
    stts = span_if true Stts at;
    ctts = span_if (is_there Ctts rs n) Ctts (behind Stts at);
    stsc = span_if true Stsc (behind Ctts (behind Stts at));
    stsz = span_if true Stsz (behind Stsc (behind Ctts (behind Stts at)));
    stco = span_if (not (wide_in scale rs n)) Offsets (behind Stsz (behind Stsc (behind Ctts (behind Stts at))));
    co64 = span_if (wide_in scale rs n) Offsets (behind Stsz (behind Stsc (behind Ctts (behind Stts at))));
    stss = span_if (is_there Stss rs n) Stss (behind Offsets (behind Stsz (behind Stsc (behind Ctts (behind Stts at)))));
  }

-- the first 8 bytes are the sample table's own header
abbrev pub boxes_at : ℕ → ℕ → List ℕ → ℕ → List ℕ → Boxes
boxes_at start scale rs n stsd = boxes_from scale rs n (start + (8 + length stsd))
