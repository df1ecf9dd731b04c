-- Where a box is read, and what it holds (ISO/IEC 14496-12, table 1 in 6.2.3, as far as the scope goes; A2, A3, A24).
-- Assumes nothing.
use Rattle.std.specs.Prelude.{ℕ, List, [], ◌∷◌, Bool, true, false, ◌&&◌, ◌||◌, eqb}
use Rattle.numbers.specs.Field.{when}
use Rattle.places.specs.Kinds.{ftyp, moov, moof, mdat, emsg, mvhd, trak, mvex, trex, tkhd, edts, mdia, elst, mdhd, hdlr, minf, dinf, stbl, dref, url, stsd, stts, ctts, stsc, stsz, stco, co64, stss, avc1, mp4a, vp09, tx3g, avcc, esds, vpcc, mfhd, traf, tfhd, tfdt, trun}
use Rattle.places.specs.declared.table.Place.{Place}
use Rattle.places.specs.declared.table.Inside.{Inside}
use Rattle.places.specs.declared.table.Inside.TheVariants.{Nothing, Boxes, Counted}

-- the file itself, as the parent of the boxes at the top
abbrev pub file : ℕ
file = 0

-- a parent, and a type that is read in it
abbrev pub place : ℕ → ℕ → Place
place home kind = record { 0 = home; 1 = kind }

unfoldable pub places : List Place
places =
    place file ftyp ∷ place file moov ∷ place file moof ∷ place file mdat ∷ place file emsg ∷
    place moov mvhd ∷ place moov trak ∷ place moov mvex ∷
    place mvex trex ∷
    place trak tkhd ∷ place trak edts ∷ place trak mdia ∷
    place edts elst ∷
    place mdia mdhd ∷ place mdia hdlr ∷ place mdia minf ∷
    place minf dinf ∷ place minf stbl ∷
    place dinf dref ∷
    place dref url ∷
    place stbl stsd ∷ place stbl stts ∷ place stbl ctts ∷ place stbl stsc ∷ place stbl stsz ∷ place stbl stco ∷ place stbl co64 ∷ place stbl stss ∷
    place stsd avc1 ∷ place stsd mp4a ∷ place stsd vp09 ∷ place stsd tx3g ∷
    place avc1 avcc ∷
    place mp4a esds ∷
    place vp09 vpcc ∷
    place moof mfhd ∷ place moof traf ∷
    place traf tfhd ∷ place traf tfdt ∷ place traf trun ∷
    []

-- the pair stands in the table
unfoldable pub listed : ℕ → ℕ → List Place → Bool
listed home kind [] = false
listed home kind (p ∷ ps) = when (◌&&◌ (eqb p.0 home) (eqb p.1 kind)) true (listed home kind ps)

-- the ten types whose whole content is boxes
abbrev pub is_container : ℕ → Bool
is_container k =
    ◌||◌ (◌||◌ (◌||◌ (◌||◌ (◌||◌ (◌||◌ (◌||◌ (◌||◌ (◌||◌ (eqb k moov) (eqb k mvex)) (eqb k trak)) (eqb k edts)) (eqb k mdia)) (eqb k minf)) (eqb k dinf)) (eqb k stbl)) (eqb k moof)) (eqb k traf)

-- what a box holds, and after how many bytes of its content. A plain container holds boxes wherever it stands. In their
-- place stsd and dref hold as many as they count, after version, flags and the count (8.5.2, 8.7.2); avc1 and vp09
-- boxes after the fields of a visual sample entry (12.1.3), mp4a after those of an audio sample entry (12.2.3).
abbrev pub held_of : ℕ → Bool → Inside
held_of kind placed =
    when (is_container kind) (Boxes 0)
    (when placed
    (when (◌||◌ (eqb kind stsd) (eqb kind dref)) (Counted 8)
    (when (◌||◌ (eqb kind avc1) (eqb kind vp09)) (Boxes 78)
    (when (eqb kind mp4a) (Boxes 28) Nothing)))
    Nothing)
