-- Samples stored in a file: the entries of each table are built from them, the box's own writer puts a box around the
-- entries, and the boxes stand in the file (01, Writer; A56 to A59). No builder and no writer refuses; the buffers that
-- are lent to them are any, and so is what else the file holds. Assumes nothing.
use Rattle.std.specs.Prelude.{ℕ, ◌≡◌, List, [], true, false, length, Option, Some, None}
use Rattle.put.specs.Put.{Wrote}
use Rattle.samples.specs.declared.Sample.{Sample}
use Rattle.samples.specs.Records.{records_of}
use Rattle.builder.specs.Built as builder
use Rattle.chunking.specs.Chunking.{chunks_in}
use Rattle.chunking.specs.Entries as chunking
use Rattle.stts.specs.declared.Stts.{Stts}
use Rattle.stts.specs.Stts.{stts_in}
use Rattle.ctts.specs.declared.Ctts.{Ctts}
use Rattle.ctts.specs.Ctts.{ctts_in}
use Rattle.stsc.specs.declared.Stsc.{Stsc}
use Rattle.stsc.specs.Stsc.{stsc_in}
use Rattle.stsz.specs.declared.Stsz.{Stsz}
use Rattle.stsz.specs.Stsz.{stsz_in}
use Rattle.stco.specs.declared.Stco.{Stco}
use Rattle.stco.specs.Stco.{stco_in}
use Rattle.co64.specs.declared.Co64.{Co64}
use Rattle.co64.specs.Co64.{co64_in}
use Rattle.stss.specs.declared.Stss.{Stss}
use Rattle.stss.specs.Stss.{stss_in}
use Rattle.stbl.specs.declared.Boxes.{Boxes}
use Rattle.built.specs.Written.{Gives, Stands}

-- a builder gives entries, a writer a box around them, and the box stands in the file
pub record BoxAt (f : List ℕ) (s : Option (ℕ × ℕ)) (entries_in : List ℕ → Wrote) (box_in : List ℕ → List ℕ → Wrote) : Type 0 where
  pub room : List ℕ
  pub entries : List ℕ
  pub built : Gives (entries_in room) entries
  pub out : List ℕ
  pub box : List ℕ
  pub written : Gives (box_in entries out) box
  pub start : ℕ
  pub spanned : s ≡ Some (start, length box)
  pub stands : Stands f start box

module _ (f : List ℕ) (l : List Sample) where
  -- no box where there are no entries, which is where all composition offsets are 0 (A57)
  pub data CttsAt (s : Option (ℕ × ℕ)) : Type 0 where
    absent : (room : List ℕ) → Gives (builder.ctts_of (records_of l) (length l) room) [] → s ≡ None → CttsAt s
    present : (m : Ctts) → BoxAt f s (builder.ctts_of (records_of l) (length l)) (ctts_in m) → CttsAt s

  -- the size that all have in common, if any, and the number of samples (A58)
  pub record StszAt (s : Option (ℕ × ℕ)) : Type 0 where
    pub head : Stsz
    pub common : head.sample_size ≡ builder.common_in (records_of l) (length l)
    pub many : head.count ≡ length l
    pub box : BoxAt f s (builder.stsz_of (records_of l) (length l)) (stsz_in head)

  -- a box whenever there is a sample (A56)
  pub data StssAt (s : Option (ℕ × ℕ)) : Type 0 where
    absent : l ≡ [] → s ≡ None → StssAt s
    present : (m : Stss) → BoxAt f s (builder.stss_of (records_of l) (length l)) (stss_in m) → StssAt s

  -- stco where all places of chunks have 32 bits, else co64
  pub data ChunksAt (scale : ℕ) (narrow wide : Option (ℕ × ℕ)) : Type 0 where
    stco : (m : Stco) → chunking.any_wide (chunks_in scale (records_of l) (length l)) ≡ false → wide ≡ None
        → BoxAt f narrow (chunking.offsets_of scale (records_of l) (length l)) (stco_in m) → ChunksAt scale narrow wide
    co64 : (m : Co64) → chunking.any_wide (chunks_in scale (records_of l) (length l)) ≡ true → narrow ≡ None
        → BoxAt f wide (chunking.offsets_of scale (records_of l) (length l)) (co64_in m) → ChunksAt scale narrow wide

  -- all tables, with the chunks by a timescale; `b` says where in the file each box is
  pub record Stored (scale : ℕ) (b : Boxes) : Type 0 where
    pub stts : (m : Stts) × BoxAt f b.stts (builder.stts_of (records_of l) (length l)) (stts_in m)
    pub ctts : CttsAt b.ctts
    pub stsc : (m : Stsc) × BoxAt f b.stsc (chunking.stsc_of scale (records_of l) (length l)) (stsc_in m)
    pub stsz : StszAt b.stsz
    pub chunks : ChunksAt scale b.stco b.co64
    pub stss : StssAt b.stss
