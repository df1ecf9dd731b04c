-- The first needed box that a file lacks (document 01, Needed; ISO/IEC 14496-12, 6.2.3), by the boxes that are recorded
-- in the tables: those of the file, then those of each track, then those of each fragment (A30). Each definition gives
-- the four letters of the first box that is missing, as the number that they are (A12), or 0. A box counts where it
-- stands in its place (A2); of two in one parent the first counts, and what would stand in a missing box is not asked
-- for. Assumes nothing.
use Rattle.std.specs.Prelude.{ℕ, ◌+◌, ◌-◌, min, List, Bool, ◌&&◌, eqb, Option, Some, None}
use Rattle.numbers.specs.Field.{when}
use Rattle.places.specs.Kinds.{ftyp, moov, moof, mvhd, trak, trex, tkhd, mdia, mdhd, hdlr, minf, dinf, stbl, stsd, stts, stsc, stsz, stco, co64, mfhd, traf, tfhd, tfdt, trun}
use Rattle.places.specs.Visit.{box_limit}
use Rattle.keys.specs.Key.{key_of}
use Rattle.kin.specs.Kin.{Boxes, stands}
use Rattle.inside.specs.Inside.{in_parent, child}
use Rattle.contents.specs.Held.{part_of, number_in, is}
use Rattle.needed.specs.First.{or_else, first, row_of}

-- what the first of the boxes of this type in the parent p lacks that lacks something
unfoldable pub each : Boxes → ℕ → ℕ → ℕ → (ℕ → ℕ) → ℕ
each t n kind p lacks = first (λ j. when (in_parent t kind p j) (lacks (j + 1)) 0) n

-- a box of this type is needed in the parent p; where it is there, the answer is the rest
unfoldable pub needed : Boxes → ℕ → ℕ → ℕ → ℕ → ℕ
needed t n kind p rest = when (eqb (child t n kind p) 0) kind rest

-- A TRACK

-- stco and co64 are one table in two forms
unfoldable pub in_stbl : Boxes → ℕ → ℕ → ℕ
in_stbl t n p =
    needed t n stsd p
    (needed t n stts p
    (needed t n stsc p
    (needed t n stsz p
    (when (eqb (child t n co64 p) 0) (needed t n stco p 0) 0))))

unfoldable pub in_minf : Boxes → ℕ → ℕ → ℕ
in_minf t n p = needed t n dinf p (needed t n stbl p (in_stbl t n (child t n stbl p)))

unfoldable pub in_mdia : Boxes → ℕ → ℕ → ℕ
in_mdia t n p = needed t n mdhd p (needed t n hdlr p (needed t n minf p (in_minf t n (child t n minf p))))

unfoldable pub in_trak : Boxes → ℕ → ℕ → ℕ
in_trak t n p = needed t n tkhd p (needed t n mdia p (in_mdia t n (child t n mdia p)))

-- A FRAGMENT

-- the track that the tfhd in row j names, or 0
abbrev pub track_of : List ℕ → Boxes → ℕ → ℕ
track_of s t j = number_in (key_of tfhd (part_of s t j))

-- box j is the trex of this track
abbrev pub extends : List ℕ → Boxes → ℕ → ℕ → Bool
extends s t track j = ◌&&◌ (stands t trex j) (is (key_of trex (part_of s t j)) track)

-- the trex of this track: its row and 1, or 0
unfoldable pub trex_of : List ℕ → Boxes → ℕ → ℕ → ℕ
trex_of s t n track = row_of (extends s t track) n

-- the trex of this track is needed; where it is there, the answer is the rest
unfoldable pub needed_trex : List ℕ → Boxes → ℕ → ℕ → ℕ → ℕ
needed_trex s t n track rest = when (eqb (trex_of s t n track) 0) trex rest

unfoldable pub in_traf : List ℕ → Boxes → ℕ → ℕ → ℕ
in_traf s t n p =
    needed t n tfhd p
    (needed_trex s t n (track_of s t (child t n tfhd p - 1)) (needed t n tfdt p (needed t n trun p 0)))

unfoldable pub in_moof : List ℕ → Boxes → ℕ → ℕ → ℕ
in_moof s t n p = needed t n mfhd p (each t n traf p (in_traf s t n))

-- THE FILE

unfoldable pub in_file : List ℕ → Boxes → ℕ → ℕ
in_file s t n =
    needed t n ftyp 0
    (needed t n moov 0
    (needed t n mvhd (child t n moov 0)
    (or_else (each t n trak (child t n moov 0) (in_trak t n)) (each t n moof 0 (in_moof s t n)))))

abbrev pub missing : ℕ → Option ℕ
missing kind = when (eqb kind 0) None (Some kind)

-- the first needed box that is missing among n that are recorded; behind the last row of the tables there is no box
abbrev pub missing_of : List ℕ → Boxes → ℕ → Option ℕ
missing_of s t n = missing (in_file s t (min n box_limit))
