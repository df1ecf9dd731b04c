-- Where the boxes of a trak lie (ISO/IEC 14496-12, 8.3.1): tkhd and mdia in the trak, mdhd, hdlr and minf in the mdia
-- (8.4.1), stbl in the minf (8.4.4), stsd and stsz in the stbl (8.5.1). Each is the first of its type, from its header to
-- its end; no bytes where it is not there, or where a fault comes before it. Assumes nothing.
use Rattle.std.specs.Prelude.{ℕ, List, Bool, length, eqb}
use Rattle.numbers.specs.Field.{when}
use Rattle.places.specs.Kinds as kinds
use Rattle.children.specs.Children.{content_of, child_of}
use Rattle.stsd.specs.Stsd as stsd

-- the first box of a type in a box of the type `parent`
unfoldable pub within : ℕ → ℕ → List ℕ → List ℕ
within parent kind part = child_of kind (content_of parent part)

abbrev pub tkhd_of : List ℕ → List ℕ
tkhd_of t = within kinds.trak kinds.tkhd t

abbrev pub mdia_of : List ℕ → List ℕ
mdia_of t = within kinds.trak kinds.mdia t

abbrev pub mdhd_of : List ℕ → List ℕ
mdhd_of t = within kinds.mdia kinds.mdhd (mdia_of t)

abbrev pub hdlr_of : List ℕ → List ℕ
hdlr_of t = within kinds.mdia kinds.hdlr (mdia_of t)

abbrev pub minf_of : List ℕ → List ℕ
minf_of t = within kinds.mdia kinds.minf (mdia_of t)

abbrev pub stbl_of : List ℕ → List ℕ
stbl_of t = within kinds.minf kinds.stbl (minf_of t)

abbrev pub stsz_of : List ℕ → List ℕ
stsz_of t = within kinds.stbl kinds.stsz (stbl_of t)

abbrev pub stsd_of : List ℕ → List ℕ
stsd_of t = within kinds.stbl kinds.stsd (stbl_of t)

-- the first sample entry
abbrev pub entry_of : List ℕ → List ℕ
entry_of t = stsd.entry_of (stsd_of t) 0

-- a part without bytes is no box
abbrev pub absent : List ℕ → Bool
absent part = eqb (length part) 0

-- which box is missing where there is none of the type `kind` in the mdia, or in the stbl: the first on the way to it
-- that is not there (document 01, Needed), or that one
abbrev pub missing_in_mdia : ℕ → List ℕ → ℕ
missing_in_mdia kind t = when (absent (mdia_of t)) kinds.mdia kind

abbrev pub missing_in_stbl : ℕ → List ℕ → ℕ
missing_in_stbl kind t =
    when (absent (mdia_of t)) kinds.mdia (when (absent (minf_of t)) kinds.minf (when (absent (stbl_of t)) kinds.stbl kind))
