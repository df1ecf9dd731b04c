-- Worked examples of the definition, computed on bytes: case 2 of document 01 agrees, and one table of it changed does
-- not, for each of the five things that F1 asks for. Assumes nothing.
use Rattle.std.specs.Prelude.{Option, Some, None}
use Prim.Native.Nat.{ℕ}
use mathlib.Core.Path.{◌≡◌, refl}
use mathlib.Core.List.{List, ◌++◌}
use mathlib.Core.Bool.{true, false}
use Rattle.numbers.specs.Number.{be, bytes}
use Rattle.numbers.specs.Field.{field, when}
use Rattle.tables.specs.Tables.{pair_at, group_at, number_at}
use Rattle.tables.specs.declared.Table.{Table}
use Rattle.tables.specs.declared.Track.{Track}
use Rattle.tables.proofs.Vectors as tables
use Rattle.agree.specs.Agree.{agree_of}

-- behind the file of the tables: ctts at 112, two tables stsc at 128 and 152, stss at 176, stts at 188
abbrev file : List ℕ
file =
    tables.file
    ++ (bytes 4 4 ++ bytes 4 0 ++ bytes 4 2 ++ bytes 4 5)
    ++ (bytes 4 1 ++ bytes 4 1 ++ bytes 4 1 ++ bytes 4 4 ++ bytes 4 3 ++ bytes 4 1)
    ++ (bytes 4 1 ++ bytes 4 3 ++ bytes 4 1 ++ bytes 4 3 ++ bytes 4 1 ++ bytes 4 1)
    ++ (bytes 4 1 ++ bytes 4 6 ++ bytes 4 7)
    ++ (bytes 4 0xffff_ffff ++ bytes 4 0 ++ bytes 4 7 ++ bytes 4 0)

abbrev entries : ℕ → ℕ → Table
entries at count = record { at = at; count = count }

-- six samples by stsz
abbrev six : Table → Option Table → Table → ℕ → Option Table → Track
six times shifts groups chunks syncs =
    record {
      stts = times;
      ctts = shifts;
      stsc = groups;
      stsz = record { at = 40; count = 6; common = 0 };
      stco = record { at = 64; count = chunks; wide = false };
      stss = syncs;
    }

case-2 : agree_of file (six (entries 0 2) None (entries 16 2) 4 None) ≡ true
unfolding agree_of be bytes field when pair_at group_at number_at
case-2 = refl

-- stts without its second entry counts 3
case-times : agree_of file (six (entries 0 1) None (entries 16 2) 4 None) ≡ false
unfolding agree_of be bytes field when pair_at group_at number_at
case-times = refl

-- 2^32 + 6 are not 6
case-times-wide : agree_of file (six (entries 188 2) None (entries 16 2) 4 None) ≡ false
unfolding agree_of be bytes field when pair_at group_at number_at
case-times-wide = refl

-- a ctts that counts 6, and one that counts 2
case-shifts : agree_of file (six (entries 0 2) (Some (entries 112 2)) (entries 16 2) 4 None) ≡ true
unfolding agree_of be bytes field when pair_at group_at number_at
case-shifts = refl

case-shifts-few : agree_of file (six (entries 0 2) (Some (entries 88 2)) (entries 16 2) 4 None) ≡ false
unfolding agree_of be bytes field when pair_at group_at number_at
case-shifts-few = refl

-- three chunks have 5 samples; by an empty stsc four have none
case-places : agree_of file (six (entries 0 2) None (entries 16 2) 3 None) ≡ false
unfolding agree_of be bytes field when pair_at group_at number_at
case-places = refl

case-places-none : agree_of file (six (entries 0 2) None (entries 16 0) 4 None) ≡ false
unfolding agree_of be bytes field when pair_at group_at number_at
case-places-none = refl

-- the last first chunk is 4 of four chunks; and 3 of two, which have 6 samples all the same
case-chunks : agree_of file (six (entries 0 2) None (entries 128 2) 4 None) ≡ true
unfolding agree_of be bytes field when pair_at group_at number_at
case-chunks = refl

case-chunks-past : agree_of file (six (entries 0 2) None (entries 152 2) 2 None) ≡ false
unfolding agree_of be bytes field when pair_at group_at number_at
case-chunks-past = refl

-- the same without that entry
case-chunks-all : agree_of file (six (entries 0 2) None (entries 152 1) 2 None) ≡ true
unfolding agree_of be bytes field when pair_at group_at number_at
case-chunks-all = refl

-- stss lists 1 and 6, the last sample; and then 7
case-syncs : agree_of file (six (entries 0 2) None (entries 16 2) 4 (Some (entries 176 2))) ≡ true
unfolding agree_of be bytes field when pair_at group_at number_at
case-syncs = refl

case-syncs-past : agree_of file (six (entries 0 2) None (entries 16 2) 4 (Some (entries 176 3))) ≡ false
unfolding agree_of be bytes field when pair_at group_at number_at
case-syncs-past = refl
