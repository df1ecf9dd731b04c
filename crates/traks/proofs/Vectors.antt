-- Worked examples of the definitions, computed. Assumes nothing.
use Rattle.std.specs.Prelude.{Ok, Err, Some, None}
use mathlib.Core.Path.{◌≡◌, refl}
use mathlib.Core.List.{List, [], ◌∷◌, ◌++◌}
use mathlib.Core.Bool.{false}
use Prim.Native.Nat.{ℕ}
use lib.ListN.{replicate}
use Rattle.numbers.specs.Number.{be, bytes}
use Rattle.numbers.specs.Field.{field, when}
use Rattle.numbers.specs.declared.Refusal.TheVariants as refusal
use Rattle.layout.specs.Rule.{rule_of}
use Rattle.layout.specs.Read.{one, decode}
use Rattle.layout.specs.Table.{cut_of}
use Rattle.rows.specs.Rows.{width_of, allowed_of, last_of, cells_of, entries_of}
use Rattle.rounds.proofs.Example.{box}
use Rattle.children.proofs.Example.{of}
use Rattle.places.specs.Kinds.{ftyp, moov, trak, tkhd, mdia, minf, stbl, stts, stsc, stsz, stco}
use Rattle.keys.specs.Key.{keys, pick_key}
use Rattle.kin.specs.Kin.{Boxes, boxes}
use Rattle.inside.specs.Inside.{next_in, rows_in, child}
use Rattle.traks.specs.Traks.{traks_of, next_trak, number_of, boxes_in, tables_of}

-- numbers of four bytes
abbrev words : List ℕ → List ℕ
words [] = []
words (n ∷ ns) = bytes 4 n ++ words ns

-- the boxes that are read: a tkhd of 24 bytes with the number 7, cut behind it, and four tables of 32, 40, 44 and 32 bytes
abbrev file : List ℕ
file =
    box tkhd 0 0 (words (1 ∷ 2 ∷ 7 ∷ [])) ++ of stts (words (0 ∷ 2 ∷ 3 ∷ 1000 ∷ 3 ∷ 500 ∷ []))
    ++ of stsc (words (0 ∷ 2 ∷ 1 ∷ 2 ∷ 1 ∷ 3 ∷ 1 ∷ 1 ∷ [])) ++ of stsz (words (0 ∷ 0 ∷ 6 ∷ 10 ∷ 20 ∷ 30 ∷ 40 ∷ 50 ∷ 60 ∷ []))
    ++ of stco (words (0 ∷ 4 ∷ 48 ∷ 78 ∷ 148 ∷ 198 ∷ []))

-- an ftyp; a moov with a trak, its tkhd and its tables, and a second trak that holds nothing
abbrev tables : Boxes
tables =
    boxes (0 ∷ 0 ∷ 0 ∷ 0 ∷ 0 ∷ 0 ∷ 0 ∷ 24 ∷ 56 ∷ 96 ∷ 140 ∷ 0 ∷ []) (0 ∷ 0 ∷ 0 ∷ 24 ∷ 0 ∷ 0 ∷ 0 ∷ 32 ∷ 40 ∷ 44 ∷ 32 ∷ 0 ∷ [])
    (ftyp ∷ moov ∷ trak ∷ tkhd ∷ mdia ∷ minf ∷ stbl ∷ stts ∷ stsc ∷ stsz ∷ stco ∷ trak ∷ [])
    (0 ∷ 0 ∷ 2 ∷ 3 ∷ 3 ∷ 5 ∷ 6 ∷ 7 ∷ 7 ∷ 7 ∷ 7 ∷ 2 ∷ []) (replicate 12 1)

-- THE TRAKS

all : traks_of tables 12 ≡ 3 ∷ 12 ∷ []
unfolding when next_in rows_in child
all = refl

first : next_trak tables 12 0 ≡ 3
unfolding when next_in child
first = refl

second : next_trak tables 12 3 ≡ 12
unfolding when next_in child
second = refl

no_more : next_trak tables 12 12 ≡ 0
unfolding when next_in child
no_more = refl

-- where there is no moov, a trak is none
no-moov : traks_of (boxes [] [] (ftyp ∷ trak ∷ []) (0 ∷ 1 ∷ []) (1 ∷ 1 ∷ [])) 2 ≡ []
unfolding when next_in rows_in child
no-moov = refl

-- THE NUMBER

number-seven : number_of file tables 12 3 ≡ 7
unfolding be bytes field when rule_of one decode pick_key keys next_in child
number-seven = refl

-- no tkhd, and one that is cut in its number
no-tkhd : number_of file tables 12 12 ≡ 0
unfolding when next_in child
no-tkhd = refl

cut : number_of (box tkhd 0 0 (words (1 ∷ 2 ∷ []))) tables 12 3 ≡ 0
unfolding be bytes field when rule_of one decode pick_key keys next_in child
cut = refl

-- THE TABLES

places : boxes_in tables 12 7 ≡
    record { stts = Some (24, 32); ctts = None; stsc = Some (56, 40); stsz = Some (96, 44); stco = Some (140, 32); co64 = None; stss = None }
unfolding when next_in child
places = refl

track : tables_of file tables 12 3 ≡
    Ok (record {
      stts = record { at = 40; count = 2 };
      ctts = None;
      stsc = record { at = 72; count = 2 };
      stsz = record { at = 116; count = 6; common = 0 };
      stco = record { at = 156; count = 4; wide = false };
      stss = None;
    })
unfolding be bytes field when rule_of one decode cut_of width_of allowed_of last_of cells_of entries_of next_in child tables_of
track = refl

-- a trak without an mdia has no tables
no-mdia : tables_of file tables 12 12 ≡ Err (refusal.Missing stts)
unfolding when next_in child tables_of
no-mdia = refl
