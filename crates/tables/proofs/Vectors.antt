-- Worked examples of the definitions, computed on bytes: cases 1 and 2 of document 01. Assumes nothing.
use Rattle.std.specs.Prelude.{Some, None}
use Prim.Native.Nat.{ℕ}
use mathlib.Core.Path.{◌≡◌, refl}
use mathlib.Core.List.{List, [], ◌∷◌, ◌++◌}
use mathlib.Core.Bool.{Bool, true, false}
use lib.IntN.{ℤ, pos, negsuc}
use lib.ListN.{take}
use Rattle.numbers.specs.Number.{be, bytes}
use Rattle.numbers.specs.Field.{field, when}
use Rattle.signed.specs.Signed.{signed}
use Rattle.samples.specs.declared.Sample.{Sample}
use Rattle.tables.specs.Tables.{pair_at, group_at, offset_at, size_at, number_at}
use Rattle.tables.specs.Samples.{samples_of}
use Rattle.tables.specs.Rows.{pair_rows, group_rows, end_at, row_by, row_at}
use Rattle.tables.specs.declared.Track.{Track}

-- stts at 0, stsc at 16, stsz at 40, stco at 64, stss at 80, ctts at 88, an entry of co64 at 104
abbrev pub file : List ℕ
file =
    bytes 4 3 ++ bytes 4 1000 ++ bytes 4 3 ++ bytes 4 500
    ++ bytes 4 1 ++ bytes 4 2 ++ bytes 4 1 ++ bytes 4 3 ++ bytes 4 1 ++ bytes 4 1
    ++ bytes 4 10 ++ bytes 4 20 ++ bytes 4 30 ++ bytes 4 40 ++ bytes 4 50 ++ bytes 4 60
    ++ bytes 4 48 ++ bytes 4 78 ++ bytes 4 148 ++ bytes 4 198
    ++ bytes 4 1 ++ bytes 4 4
    ++ bytes 4 1 ++ bytes 4 7 ++ bytes 4 1 ++ bytes 4 0xffff_fffe
    ++ bytes 8 0xffff_ffff_ffff_fff0

abbrev pub track : Track
track = record {
  stts = record { at = 0; count = 2 };
  ctts = Some (record { at = 88; count = 2 });
  stsc = record { at = 16; count = 2 };
  stsz = record { at = 40; count = 6; common = 0 };
  stco = record { at = 64; count = 4; wide = false };
  stss = Some (record { at = 80; count = 2 });
}

-- every sample has the size 5, and there are three of them; no ctts, no stss
abbrev pub common : Track
common = record {
  stts = record { at = 0; count = 2 };
  ctts = None;
  stsc = record { at = 16; count = 2 };
  stsz = record { at = 0; count = 3; common = 5 };
  stco = record { at = 64; count = 4; wide = false };
  stss = None;
}

-- one chunk, 16 bytes before 2^64, with samples of 10 and 20 bytes
abbrev pub high : Track
high = record {
  stts = record { at = 0; count = 2 };
  ctts = None;
  stsc = record { at = 16; count = 1 };
  stsz = record { at = 40; count = 2; common = 0 };
  stco = record { at = 104; count = 1; wide = true };
  stss = None;
}

abbrev pub times : List Sample → List ℕ
times [] = []
times (s ∷ l) = s.time ∷ times l

abbrev pub durations : List Sample → List ℕ
durations [] = []
durations (s ∷ l) = s.duration ∷ durations l

abbrev pub offsets : List Sample → List ℕ
offsets [] = []
offsets (s ∷ l) = s.offset ∷ offsets l

abbrev pub sizes : List Sample → List ℕ
sizes [] = []
sizes (s ∷ l) = s.size ∷ sizes l

abbrev pub compositions : List Sample → List ℤ
compositions [] = []
compositions (s ∷ l) = s.composition ∷ compositions l

abbrev pub syncs : List Sample → List Bool
syncs [] = []
syncs (s ∷ l) = s.sync ∷ syncs l

pub case-1 : times (samples_of file track) ≡ 0 ∷ 1000 ∷ 2000 ∷ 3000 ∷ 3500 ∷ 4000 ∷ []
unfolding be bytes field when signed pair_at group_at offset_at size_at number_at
case-1 = refl

case-1-durations : durations (samples_of file track) ≡ 1000 ∷ 1000 ∷ 1000 ∷ 500 ∷ 500 ∷ 500 ∷ []
unfolding be bytes field when signed pair_at group_at offset_at size_at number_at
case-1-durations = refl

pub case-2 : offsets (samples_of file track) ≡ 48 ∷ 58 ∷ 78 ∷ 108 ∷ 148 ∷ 198 ∷ []
unfolding be bytes field when signed pair_at group_at offset_at size_at number_at
case-2 = refl

-- stss lists 1 and 4
case-sync : syncs (samples_of file track) ≡ true ∷ false ∷ false ∷ true ∷ false ∷ false ∷ []
unfolding be bytes field when signed pair_at group_at offset_at size_at number_at
case-sync = refl

-- ctts has two offsets, 7 and -2: the others are 0
case-composition : compositions (samples_of file track) ≡ pos 7 ∷ negsuc 1 ∷ pos 0 ∷ pos 0 ∷ pos 0 ∷ pos 0 ∷ []
unfolding be bytes field when signed pair_at group_at offset_at size_at number_at
case-composition = refl

-- a common size answers as often as stsz counts, and not past it
case-common : sizes (samples_of file common) ≡ 5 ∷ 5 ∷ 5 ∷ []
unfolding be bytes field when signed pair_at group_at offset_at size_at number_at
case-common = refl

case-all-sync : syncs (samples_of file common) ≡ true ∷ true ∷ true ∷ []
unfolding be bytes field when signed pair_at group_at offset_at size_at number_at
case-all-sync = refl

-- sizes add in 64 bits, and past them: the list itself has no limit
case-high : offsets (samples_of file high) ≡ 0xffff_ffff_ffff_fff0 ∷ 0xffff_ffff_ffff_fffa ∷ []
unfolding be bytes field when signed pair_at group_at offset_at size_at number_at
case-high = refl

-- a file that ends within stsz's third size: from there on sizes are 0, and so is every chunk's place
case-cut : offsets (samples_of (take 50 file) track) ≡ 0 ∷ 10 ∷ 0 ∷ 0 ∷ 0 ∷ 0 ∷ []
unfolding be bytes field when signed pair_at group_at offset_at size_at number_at
case-cut = refl

-- rows by their number: an entry of stts; stsc's first entry, chunks 1 and 2; and its last one, chunks 3 and 4
case_row : row_at file (pair_rows track.stts) 1 ≡ record { count = 3; value = 500 }
unfolding be bytes field when pair_at row_by
case_row = refl

case-row-next : row_at file (group_rows track.stsc 4) 0 ≡ record { count = 2; value = 2 }
unfolding be bytes field when row_by end_at
case-row-next = refl

case-row-last : row_at file (group_rows track.stsc 4) 1 ≡ record { count = 2; value = 1 }
unfolding be bytes field when row_by end_at
case-row-last = refl

case-size : size_at file track.stsz 2 ≡ 30
unfolding be bytes field when size_at
case-size = refl

case-chunk : offset_at file track.stco 1 ≡ 78
unfolding be bytes field when offset_at
case-chunk = refl
