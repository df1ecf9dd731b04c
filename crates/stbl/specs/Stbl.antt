-- The tables of a track from the boxes of its stbl (ISO/IEC 14496-12, 8.5.1; document 01, Needed). Each box is read by its
-- own reader, in the bytes that it has in the file; then needed boxes that are missing are told (5), in the order of
-- document 01 (A30). This is no parse of a file: the first fault is that of the first box in the order below, wherever
-- the boxes lie; the file's parse tells the first in file order. Assumes nothing.
use Rattle.std.specs.Prelude.{ℕ, ◌+◌, ◌-◌, ◌^◌, List, Bool, true, false, ltb, leb, Result, Option, Ok, Err, Some, None}
use Rattle.numbers.specs.Field.{when}
use Rattle.numbers.specs.declared.Refusal.TheVariants as refusal
use Rattle.numbers.specs.declared.Refusal.{Refusal}
use Rattle.numbers.specs.Refusals.{moved}
use Rattle.parts.specs.Parts.{part_of}
use Rattle.places.specs.Kinds as kinds
use Rattle.rows.specs.Judge.{settle}
use Rattle.stts.specs.Stts.{stts_of}
use Rattle.ctts.specs.Ctts.{ctts_of}
use Rattle.stsc.specs.Stsc.{stsc_of}
use Rattle.stsz.specs.Stsz.{stsz_of}
use Rattle.stco.specs.Stco.{stco_of}
use Rattle.co64.specs.Co64.{co64_of}
use Rattle.stss.specs.Stss.{stss_of}
use Rattle.tables.specs.declared.Table.{Table}
use Rattle.tables.specs.declared.Track.{Track}
use Rattle.stbl.specs.declared.Boxes.{Boxes}
use Rattle.stbl.specs.declared.Entries.{Entries}
use Rattle.stbl.specs.declared.Readings.{Readings}
use Rattle.stss.specs.declared.Stss.{Stss}
use Rattle.co64.specs.declared.Co64.{Co64}
use Rattle.stco.specs.declared.Stco.{Stco}
use Rattle.stsz.specs.declared.Stsz.{Stsz}
use Rattle.stsc.specs.declared.Stsc.{Stsc}
use Rattle.ctts.specs.declared.Ctts.{Ctts}
use Rattle.stts.specs.declared.Stts.{Stts}

-- A BOX IN THE FILE

-- the last position that there is: what would lie behind it does not fit, and no file has it
abbrev pub last : ℕ
last = 2 ^ 64 - 1

-- the entries of a box that begins at `start`
abbrev pub entries_at : ℕ → ℕ → ℕ → ℕ → Result (Option Entries) Refusal
entries_at start at count common = when (leb (start + at) last) (Ok (Some (record { at = start + at; count = count; common = common }))) (Err refusal.Overflow)

-- a box by its reader, in the bytes that it has in the file
abbrev pub read_at : (ℕ → List ℕ → Result (Option Entries) Refusal) → List ℕ → Option (ℕ × ℕ) → Result (Option Entries) Refusal
read_at read f None = (Ok None)
read_at read f (Some (start, size)) = read start (part_of start size f)

abbrev pub stts_read : ℕ → Result (Stts × ℕ) Refusal → Result (Option Entries) Refusal
stts_read start (Ok (m, at)) = entries_at start at m.count 0
stts_read start (Err q) = Err (moved start q)

abbrev pub stts_at : List ℕ → Option (ℕ × ℕ) → Result (Option Entries) Refusal
stts_at f s = read_at (λ start part. stts_read start (stts_of part)) f s

abbrev pub ctts_read : ℕ → Result (Ctts × ℕ) Refusal → Result (Option Entries) Refusal
ctts_read start (Ok (m, at)) = entries_at start at m.count 0
ctts_read start (Err q) = Err (moved start q)

abbrev pub ctts_at : List ℕ → Option (ℕ × ℕ) → Result (Option Entries) Refusal
ctts_at f s = read_at (λ start part. ctts_read start (ctts_of part)) f s

abbrev pub stsc_read : ℕ → Result (Stsc × ℕ) Refusal → Result (Option Entries) Refusal
stsc_read start (Ok (m, at)) = entries_at start at m.count 0
stsc_read start (Err q) = Err (moved start q)

abbrev pub stsc_at : List ℕ → Option (ℕ × ℕ) → Result (Option Entries) Refusal
stsc_at f s = read_at (λ start part. stsc_read start (stsc_of part)) f s

abbrev pub stsz_read : ℕ → Result (Stsz × ℕ) Refusal → Result (Option Entries) Refusal
stsz_read start (Ok (m, at)) = entries_at start at m.count m.sample_size
stsz_read start (Err q) = Err (moved start q)

abbrev pub stsz_at : List ℕ → Option (ℕ × ℕ) → Result (Option Entries) Refusal
stsz_at f s = read_at (λ start part. stsz_read start (stsz_of part)) f s

abbrev pub stco_read : ℕ → Result (Stco × ℕ) Refusal → Result (Option Entries) Refusal
stco_read start (Ok (m, at)) = entries_at start at m.count 0
stco_read start (Err q) = Err (moved start q)

abbrev pub stco_at : List ℕ → Option (ℕ × ℕ) → Result (Option Entries) Refusal
stco_at f s = read_at (λ start part. stco_read start (stco_of part)) f s

abbrev pub co64_read : ℕ → Result (Co64 × ℕ) Refusal → Result (Option Entries) Refusal
co64_read start (Ok (m, at)) = entries_at start at m.count 0
co64_read start (Err q) = Err (moved start q)

abbrev pub co64_at : List ℕ → Option (ℕ × ℕ) → Result (Option Entries) Refusal
co64_at f s = read_at (λ start part. co64_read start (co64_of part)) f s

abbrev pub stss_read : ℕ → Result (Stss × ℕ) Refusal → Result (Option Entries) Refusal
stss_read start (Ok (m, at)) = entries_at start at m.count 0
stss_read start (Err q) = Err (moved start q)

abbrev pub stss_at : List ℕ → Option (ℕ × ℕ) → Result (Option Entries) Refusal
stss_at f s = read_at (λ start part. stss_read start (stss_of part)) f s

-- the chunks: stco or co64; both are 6 at the second (A50)
abbrev pub later_of : ℕ → ℕ → ℕ
later_of a b = when (ltb a b) b a

abbrev pub chunks_at : List ℕ → Option (ℕ × ℕ) → Option (ℕ × ℕ) → Result (Option Entries) Refusal
chunks_at f None wide = co64_at f wide
chunks_at f (Some (a, n)) None = stco_at f (Some (a, n))
chunks_at f (Some (a, n)) (Some (b, m)) = Err (refusal.Twice (later_of a b))

abbrev pub read_all : List ℕ → Boxes → Readings
read_all f b = record {
  stts = stts_at f b.stts;
  ctts = ctts_at f b.ctts;
  stsc = stsc_at f b.stsc;
  stsz = stsz_at f b.stsz;
  chunks = chunks_at f b.stco b.co64;
  stss = stss_at f b.stss;
}

-- THE FIRST FAULT

abbrev pub fault_in : Result (Option Entries) Refusal → Result (Unit {0}) Refusal
fault_in (Ok None) = (Ok tt)
fault_in (Ok (Some e)) = (Ok tt)
fault_in (Err q) = Err q

abbrev pub missing : ℕ → Result (Option Entries) Refusal → Result (Unit {0}) Refusal
missing kind (Ok None) = Err (refusal.Missing kind)
missing kind (Ok (Some e)) = (Ok tt)
missing kind (Err q) = (Ok tt)

abbrev pub first_wrong : Result (Unit {0}) Refusal → Result (Unit {0}) Refusal → Result (Unit {0}) Refusal
first_wrong (Ok tt) j = j
first_wrong (Err q) j = Err q

abbrev pub faults : Readings → Result (Unit {0}) Refusal
faults r =
    first_wrong (fault_in r.stts)
    (first_wrong (fault_in r.ctts)
    (first_wrong (fault_in r.stsc) (first_wrong (fault_in r.stsz) (first_wrong (fault_in r.chunks) (fault_in r.stss)))))

abbrev pub lacks : Readings → Result (Unit {0}) Refusal
lacks r =
    first_wrong (missing kinds.stts r.stts)
    (first_wrong (missing kinds.stsc r.stsc) (first_wrong (missing kinds.stsz r.stsz) (missing kinds.stco r.chunks)))

-- THE TABLES

abbrev pub entries_in : Result (Option Entries) Refusal → Entries
entries_in (Ok (Some e)) = e
entries_in (Ok None) = record { at = 0; count = 0; common = 0 }
entries_in (Err q) = record { at = 0; count = 0; common = 0 }

abbrev pub table_in : Result (Option Entries) Refusal → Table
table_in r = record { at = (entries_in r).at; count = (entries_in r).count }

abbrev pub optional_in : Result (Option Entries) Refusal → Option Table
optional_in (Ok (Some e)) = Some (record { at = e.at; count = e.count })
optional_in (Ok None) = None
optional_in (Err q) = None

abbrev pub is_there : Option (ℕ × ℕ) → Bool
is_there None = false
is_there (Some (start, size)) = true

abbrev pub built : Readings → Bool → Track
built r wide = record {
  stts = table_in r.stts;
  ctts = optional_in r.ctts;
  stsc = table_in r.stsc;
  stsz = record { at = (entries_in r.stsz).at; count = (entries_in r.stsz).count; common = (entries_in r.stsz).common };
  stco = record { at = (entries_in r.chunks).at; count = (entries_in r.chunks).count; wide = wide };
  stss = optional_in r.stss;
}

-- the tables of the track whose boxes lie there in the file: by co64 where it is there
abbrev pub track_of : List ℕ → Boxes → Result Track Refusal
track_of f b = settle (Ok (built (read_all f b) (is_there b.co64))) Err (first_wrong (faults (read_all f b)) (lacks (read_all f b)))
