-- Worked examples of the definitions, computed. Assumes nothing.
use Rattle.std.specs.Prelude.{Option, Some, None}
use mathlib.Core.Path.{◌≡◌, refl}
use mathlib.Core.List.{List, [], ◌∷◌, ◌++◌}
use Prim.Native.Nat.{ℕ}
use lib.ListN.{length, replicate}
use Rattle.numbers.specs.Number.{be, bytes}
use Rattle.numbers.specs.Field.{field, when}
use Rattle.layout.specs.Rule.{rule_of}
use Rattle.layout.specs.Read.{one, decode}
use Rattle.rounds.proofs.Example.{box}
use Rattle.places.specs.Kinds.{ftyp, moov, moof, mvhd, trak, mvex, trex, tkhd, mdia, mdhd, hdlr, minf, dinf, stbl, stsd, stts, stsc, stsz, stco, co64, mfhd, traf, tfhd, tfdt, trun}
use Rattle.keys.specs.Key.{keys, pick_key}
use Rattle.kin.specs.Kin.{boxes}
use Rattle.needed.specs.First.{first}
use Rattle.inside.specs.Inside.{next_in, child}
use Rattle.needed.specs.Needed.{each, needed, in_stbl, in_minf, in_mdia, in_trak, trex_of, needed_trex, in_traf, in_moof, in_file, missing_of}

-- what a file lacks whose boxes stand in their places, by their types and parents alone
abbrev lacks : List ℕ → List ℕ → Option ℕ
lacks kinds parents = missing_of [] (boxes [] [] kinds parents (replicate (length kinds) 1)) (length kinds)

-- THE FILE

empty : lacks [] [] ≡ Some ftyp
unfolding when next_in first child each needed in_file
empty = refl

-- a moov alone does not make up for the ftyp
no-ftyp : lacks (moov ∷ mvhd ∷ []) (0 ∷ 1 ∷ []) ≡ Some ftyp
unfolding when next_in first child each needed in_file
no-ftyp = refl

no-moov : lacks (ftyp ∷ []) (0 ∷ []) ≡ Some moov
unfolding when next_in first child each needed in_file
no-moov = refl

-- an mvhd in another parent does not count
no-mvhd : lacks (ftyp ∷ moov ∷ mvhd ∷ []) (0 ∷ 0 ∷ 0 ∷ []) ≡ Some mvhd
unfolding when next_in first child each needed in_file
no-mvhd = refl

-- a file without tracks and fragments lacks nothing
bare : lacks (ftyp ∷ moov ∷ mvhd ∷ []) (0 ∷ 0 ∷ 2 ∷ []) ≡ None
unfolding when next_in first child each needed in_file
bare = refl

-- a box that does not stand in its place does not count, nor one behind the recorded
unplaced : missing_of [] (boxes [] [] (ftyp ∷ moov ∷ mvhd ∷ []) (0 ∷ 0 ∷ 2 ∷ []) (1 ∷ 0 ∷ 1 ∷ [])) 3 ≡ Some moov
unfolding when next_in first child each needed in_file
unplaced = refl

unrecorded : missing_of [] (boxes [] [] (ftyp ∷ moov ∷ mvhd ∷ []) (0 ∷ 0 ∷ 2 ∷ []) (1 ∷ 1 ∷ 1 ∷ [])) 2 ≡ Some mvhd
unfolding when next_in first child each needed in_file
unrecorded = refl

-- A TRACK

abbrev head : List ℕ
head = ftyp ∷ moov ∷ mvhd ∷ []

-- what stands in a track, from its first box in row 4 on; the tables come last
abbrev track : List ℕ → List ℕ
track tables = head ++ (trak ∷ tkhd ∷ mdia ∷ mdhd ∷ hdlr ∷ minf ∷ dinf ∷ stbl ∷ []) ++ tables

abbrev parents : List ℕ
parents = 0 ∷ 0 ∷ 2 ∷ 2 ∷ 4 ∷ 4 ∷ 6 ∷ 6 ∷ 6 ∷ 9 ∷ 9 ∷ 11 ∷ 11 ∷ 11 ∷ 11 ∷ 11 ∷ []

whole : lacks (track (stsd ∷ stts ∷ stsc ∷ stsz ∷ stco ∷ [])) parents ≡ None
unfolding when next_in first child each needed in_stbl in_minf in_mdia in_trak in_file
whole = refl

wide-offsets : lacks (track (stsd ∷ stts ∷ stsc ∷ stsz ∷ co64 ∷ [])) parents ≡ None
unfolding when next_in first child each needed in_stbl in_minf in_mdia in_trak in_file
wide-offsets = refl

-- neither of the two forms: the letters are stco
no-offsets : lacks (track (stsd ∷ stts ∷ stsc ∷ stsz ∷ [])) parents ≡ Some stco
unfolding when next_in first child each needed in_stbl in_minf in_mdia in_trak in_file
no-offsets = refl

no-stts : lacks (track (stsd ∷ stsc ∷ [])) parents ≡ Some stts
unfolding when next_in first child each needed in_stbl in_minf in_mdia in_trak in_file
no-stts = refl

-- what would stand in a missing mdia is not asked for; the tkhd comes first
no-mdia : lacks (head ++ (trak ∷ tkhd ∷ [])) parents ≡ Some mdia
unfolding when next_in first child each needed in_stbl in_minf in_mdia in_trak in_file
no-mdia = refl

no-tkhd : lacks (head ++ (trak ∷ [])) parents ≡ Some tkhd
unfolding when next_in first child each needed in_stbl in_minf in_mdia in_trak in_file
no-tkhd = refl

-- the second track
second : lacks (track (stsd ∷ stts ∷ stsc ∷ stsz ∷ stco ∷ trak ∷ tkhd ∷ [])) (parents ++ (2 ∷ 17 ∷ [])) ≡ Some mdia
unfolding when next_in first child each needed in_stbl in_minf in_mdia in_trak in_file
second = refl

-- A FRAGMENT

-- the moof comes first in the file; still the track is asked first
early : lacks (ftyp ∷ moof ∷ moov ∷ mvhd ∷ trak ∷ []) (0 ∷ 0 ∷ 0 ∷ 3 ∷ 3 ∷ []) ≡ Some tkhd
unfolding when next_in first child each needed in_stbl in_minf in_mdia in_trak in_traf in_moof in_file
early = refl

no-mfhd : lacks (ftyp ∷ moov ∷ mvhd ∷ moof ∷ []) (0 ∷ 0 ∷ 2 ∷ 0 ∷ []) ≡ Some mfhd
unfolding when next_in first child each needed in_stbl in_minf in_mdia in_trak in_traf in_moof in_file
no-mfhd = refl

no-tfhd : lacks (ftyp ∷ moov ∷ mvhd ∷ moof ∷ mfhd ∷ traf ∷ []) (0 ∷ 0 ∷ 2 ∷ 0 ∷ 4 ∷ 4 ∷ []) ≡ Some tfhd
unfolding when next_in first child each needed in_stbl in_minf in_mdia in_trak in_traf in_moof in_file
no-tfhd = refl

-- a trex of track 7, and a fragment of some track with what follows its tfhd
abbrev extended : ℕ → List ℕ → Option ℕ
extended number rest =
    missing_of (box trex 0 0 (bytes 4 7 ++ replicate 16 0) ++ box tfhd 0 0 (bytes 4 number))
    (boxes (0 ∷ 0 ∷ 0 ∷ 0 ∷ 0 ∷ 0 ∷ 0 ∷ 0 ∷ 32 ∷ []) (0 ∷ 0 ∷ 0 ∷ 0 ∷ 32 ∷ 0 ∷ 0 ∷ 0 ∷ 16 ∷ [])
    (head ++ (mvex ∷ trex ∷ moof ∷ mfhd ∷ traf ∷ tfhd ∷ []) ++ rest) (0 ∷ 0 ∷ 2 ∷ 2 ∷ 4 ∷ 0 ∷ 6 ∷ 6 ∷ 8 ∷ 8 ∷ 8 ∷ [])
    (replicate 11 1))
    11

all_there : extended 7 (tfdt ∷ trun ∷ []) ≡ None
unfolding be bytes field when rule_of one decode keys pick_key next_in first child each needed in_trak trex_of needed_trex in_traf in_moof in_file
all_there = refl

-- the trex of another track does not serve
other-trex : extended 8 (tfdt ∷ trun ∷ []) ≡ Some trex
unfolding be bytes field when rule_of one decode keys pick_key next_in first child each needed in_trak trex_of needed_trex in_traf in_moof in_file
other-trex = refl

no-tfdt : extended 7 (trun ∷ []) ≡ Some tfdt
unfolding be bytes field when rule_of one decode keys pick_key next_in first child each needed in_trak trex_of needed_trex in_traf in_moof in_file
no-tfdt = refl

no-trun : extended 7 (tfdt ∷ []) ≡ Some trun
unfolding be bytes field when rule_of one decode keys pick_key next_in first child each needed in_trak trex_of needed_trex in_traf in_moof in_file
no-trun = refl
