-- Worked examples of the definitions, computed: the tables of document 01's case 2 as an stbl. Assumes nothing.
use Rattle.std.specs.Prelude.{Ok, Err, Some, None}
use mathlib.Core.Path.{◌≡◌, refl}
use mathlib.Core.List.{List, [], ◌∷◌, ◌++◌}
use mathlib.Core.Bool.{true, false}
use Prim.Native.Nat.{ℕ, ◌+◌}
use Rattle.numbers.specs.Number.{be, bytes}
use Rattle.numbers.specs.Field.{field, when}
use Rattle.numbers.specs.declared.Refusal.TheVariants as refusal
use Rattle.signed.specs.Signed.{signed}
use Rattle.places.specs.Kinds.{stbl, stts, ctts, stsc, stsz, stco, co64, stss}
use Rattle.layout.specs.Rule.{rule_of}
use Rattle.layout.specs.Read.{one, decode}
use Rattle.layout.specs.Table.{cut_of}
use Rattle.rows.specs.Rows.{width_of, allowed_of, last_of, cells_of, entries_of}
use Rattle.children.proofs.Example.{of}
use Rattle.samples.specs.declared.Sample.{Sample}
use Rattle.tables.specs.Tables.{pair_at, group_at, offset_at, size_at, number_at}
use Rattle.tables.specs.Samples.{samples_of}
use Rattle.tables.specs.declared.Track.{Track}
use Rattle.stbl.specs.Stbl.{track_of}
use Rattle.stbl.specs.declared.Boxes.{Boxes}

-- numbers of four bytes
abbrev words : List ℕ → List ℕ
words [] = []
words (n ∷ ns) = bytes 4 n ++ words ns

abbrev times : List ℕ
times = of stts (words (0 ∷ 2 ∷ 3 ∷ 1000 ∷ 3 ∷ 500 ∷ []))

abbrev groups : List ℕ
groups = of stsc (words (0 ∷ 2 ∷ 1 ∷ 2 ∷ 1 ∷ 3 ∷ 1 ∷ 1 ∷ []))

abbrev sizes : List ℕ
sizes = of stsz (words (0 ∷ 0 ∷ 6 ∷ 10 ∷ 20 ∷ 30 ∷ 40 ∷ 50 ∷ 60 ∷ []))

abbrev narrow : List ℕ
narrow = of stco (words (0 ∷ 4 ∷ 48 ∷ 78 ∷ 148 ∷ 198 ∷ []))

abbrev wide : List ℕ
wide = of co64 (words (0 ∷ 1 ∷ 1 ∷ 0 ∷ []))

abbrev pub case-two : List ℕ
case-two = of stbl (times ++ groups ++ sizes ++ narrow)

abbrev pub case-boxes : Boxes
case-boxes = record { stts = Some (8, 32); ctts = None; stsc = Some (40, 40); stsz = Some (80, 44); stco = Some (124, 32); co64 = None; stss = None }

abbrev case-track : Track
case-track = record {
  stts = record { at = 24; count = 2 };
  ctts = None;
  stsc = record { at = 56; count = 2 };
  stsz = record { at = 100; count = 6; common = 0 };
  stco = record { at = 140; count = 4; wide = false };
  stss = None;
}

case-read : track_of case-two case-boxes ≡ Ok case-track
unfolding be bytes field when rule_of one decode cut_of width_of allowed_of last_of cells_of entries_of
case-read = refl

abbrev offsets : List Sample → List ℕ
offsets [] = []
offsets (s ∷ l) = s.offset ∷ offsets l

case-offsets : offsets (samples_of case-two case-track) ≡ 48 ∷ 58 ∷ 78 ∷ 108 ∷ 148 ∷ 198 ∷ []
unfolding be bytes field when signed pair_at group_at offset_at size_at number_at
case-offsets = refl

-- a common size, wide offsets, and both tables that may be absent; entries begin 16 or 20 bytes into a box
other-read : track_of (times ++ groups ++ of stsz (words (0 ∷ 7 ∷ 6 ∷ [])) ++ wide ++ of ctts (words (0 ∷ 0 ∷ [])) ++ of stss (words (0 ∷ 1 ∷ 2 ∷ [])))
    (record { stts = Some (0, 32); ctts = Some (116, 16); stsc = Some (32, 40); stsz = Some (72, 20); stco = None; co64 = Some (92, 24); stss = Some (132, 20) }) ≡
    Ok (record {
      stts = record { at = 16; count = 2 };
      ctts = Some (record { at = 132; count = 0 });
      stsc = record { at = 48; count = 2 };
      stsz = record { at = 92; count = 6; common = 7 };
      stco = record { at = 108; count = 1; wide = true };
      stss = Some (record { at = 148; count = 1 });
    })
unfolding be bytes field when rule_of one decode cut_of width_of allowed_of last_of cells_of entries_of
other-read = refl

-- needed boxes that are missing, the first in order
none-there : track_of [] (record { stts = None; ctts = None; stsc = None; stsz = None; stco = None; co64 = None; stss = None }) ≡ Err (refusal.Missing stts)
none-there = refl

sizes-missing : track_of case-two (record { stts = Some (8, 32); ctts = None; stsc = Some (40, 40); stsz = None; stco = None; co64 = None; stss = None }) ≡ Err (refusal.Missing stsz)
unfolding be bytes field when rule_of one decode cut_of width_of allowed_of last_of cells_of entries_of
sizes-missing = refl

chunks-missing : track_of case-two (record { stts = Some (8, 32); ctts = None; stsc = Some (40, 40); stsz = Some (80, 44); stco = None; co64 = None; stss = None }) ≡ Err (refusal.Missing stco)
unfolding be bytes field when rule_of one decode cut_of width_of allowed_of last_of cells_of entries_of
chunks-missing = refl

-- both forms of chunk offsets: the second is told, whichever it is
both-there : track_of case-two (record { stts = Some (8, 32); ctts = None; stsc = Some (40, 40); stsz = Some (80, 44); stco = Some (124, 32); co64 = Some (200, 8); stss = None }) ≡ Err (refusal.Twice 200)
unfolding be bytes field when rule_of one decode cut_of width_of allowed_of last_of cells_of entries_of
both-there = refl

both-before : track_of case-two (record { stts = Some (8, 32); ctts = None; stsc = Some (40, 40); stsz = Some (80, 44); stco = Some (124, 32); co64 = Some (1, 8); stss = None }) ≡ Err (refusal.Twice 124)
unfolding be bytes field when rule_of one decode cut_of width_of allowed_of last_of cells_of entries_of
both-before = refl

-- a reader's refusal, counted from the file's first byte, comes before a missing box; a box of another type
refused-moved : track_of case-two (record { stts = None; ctts = Some (8, 32); stsc = None; stsz = None; stco = None; co64 = None; stss = None }) ≡ Err (refusal.Value 12)
unfolding be bytes field when rule_of one decode cut_of width_of allowed_of last_of cells_of entries_of
refused-moved = refl

-- a box that the file cuts, and one behind its end
cut_off : track_of case-two (record { stts = Some (8, 30); ctts = None; stsc = None; stsz = None; stco = None; co64 = None; stss = None }) ≡ Err (refusal.Cut 8)
unfolding be bytes field when rule_of one decode cut_of width_of allowed_of last_of cells_of entries_of
cut_off = refl

behind : track_of case-two (record { stts = Some (500, 30); ctts = None; stsc = None; stsz = None; stco = None; co64 = None; stss = None }) ≡ Err (refusal.Cut 500)
unfolding be bytes field when rule_of one decode cut_of width_of allowed_of last_of cells_of entries_of
behind = refl
