-- Worked examples of the definitions, computed. Assumes nothing.
use mathlib.Core.Path.{◌≡◌, refl}
use mathlib.Core.List.{List, [], ◌∷◌, map}
use mathlib.Core.Bool.{true, false}
use Prim.Native.Nat.{ℕ}
use Rattle.numbers.specs.Number.{be}
use Rattle.numbers.specs.Field.{when}
use Rattle.places.specs.Kinds.{ftyp, moov, moof, mdat, emsg, mvhd, trak, mvex, trex, tkhd, edts, mdia, elst, mdhd, hdlr, minf, dinf, stbl, dref, url, stsd, stts, ctts, stsc, stsz, stco, co64, stss, avc1, mp4a, vp09, tx3g, avcc, esds, vpcc, mfhd, traf, tfhd, tfdt, trun}
use Rattle.places.specs.Places.{file, places, listed, held_of}
use Rattle.places.specs.declared.table.Inside.TheVariants.{Nothing, Boxes, Counted}

-- every type is the number of its four letters
letters : ftyp ∷ moov ∷ moof ∷ mdat ∷ emsg ∷ mvhd ∷ trak ∷ mvex ∷ trex ∷ tkhd ∷ edts ∷ mdia ∷ elst ∷ mdhd ∷ hdlr ∷ minf ∷ dinf ∷ stbl ∷ dref ∷ url ∷ stsd ∷ stts ∷ ctts ∷ stsc ∷ stsz ∷ stco ∷ co64 ∷ stss ∷ avc1 ∷ mp4a ∷ vp09 ∷ tx3g ∷ avcc ∷ esds ∷ vpcc ∷ mfhd ∷ traf ∷ tfhd ∷ tfdt ∷ trun ∷ []
    ≡ map (λ l. be 4 l 0)
    ((102 ∷ 116 ∷ 121 ∷ 112 ∷ []) ∷ (109 ∷ 111 ∷ 111 ∷ 118 ∷ []) ∷ (109 ∷ 111 ∷ 111 ∷ 102 ∷ []) ∷ (109 ∷ 100 ∷ 97 ∷ 116 ∷ []) ∷ (101 ∷ 109 ∷ 115 ∷ 103 ∷ []) ∷ (109 ∷ 118 ∷ 104 ∷ 100 ∷ []) ∷ (116 ∷ 114 ∷ 97 ∷ 107 ∷ []) ∷ (109 ∷ 118 ∷ 101 ∷ 120 ∷ []) ∷ (116 ∷ 114 ∷ 101 ∷ 120 ∷ []) ∷ (116 ∷ 107 ∷ 104 ∷ 100 ∷ []) ∷ (101 ∷ 100 ∷ 116 ∷ 115 ∷ []) ∷ (109 ∷ 100 ∷ 105 ∷ 97 ∷ []) ∷ (101 ∷ 108 ∷ 115 ∷ 116 ∷ []) ∷ (109 ∷ 100 ∷ 104 ∷ 100 ∷ []) ∷ (104 ∷ 100 ∷ 108 ∷ 114 ∷ []) ∷ (109 ∷ 105 ∷ 110 ∷ 102 ∷ []) ∷ (100 ∷ 105 ∷ 110 ∷ 102 ∷ []) ∷ (115 ∷ 116 ∷ 98 ∷ 108 ∷ []) ∷ (100 ∷ 114 ∷ 101 ∷ 102 ∷ []) ∷ (117 ∷ 114 ∷ 108 ∷ 32 ∷ []) ∷ (115 ∷ 116 ∷ 115 ∷ 100 ∷ []) ∷ (115 ∷ 116 ∷ 116 ∷ 115 ∷ []) ∷ (99 ∷ 116 ∷ 116 ∷ 115 ∷ []) ∷ (115 ∷ 116 ∷ 115 ∷ 99 ∷ []) ∷ (115 ∷ 116 ∷ 115 ∷ 122 ∷ []) ∷ (115 ∷ 116 ∷ 99 ∷ 111 ∷ []) ∷ (99 ∷ 111 ∷ 54 ∷ 52 ∷ []) ∷ (115 ∷ 116 ∷ 115 ∷ 115 ∷ []) ∷ (97 ∷ 118 ∷ 99 ∷ 49 ∷ []) ∷ (109 ∷ 112 ∷ 52 ∷ 97 ∷ []) ∷ (118 ∷ 112 ∷ 48 ∷ 57 ∷ []) ∷ (116 ∷ 120 ∷ 51 ∷ 103 ∷ []) ∷ (97 ∷ 118 ∷ 99 ∷ 67 ∷ []) ∷ (101 ∷ 115 ∷ 100 ∷ 115 ∷ []) ∷ (118 ∷ 112 ∷ 99 ∷ 67 ∷ []) ∷ (109 ∷ 102 ∷ 104 ∷ 100 ∷ []) ∷ (116 ∷ 114 ∷ 97 ∷ 102 ∷ []) ∷ (116 ∷ 102 ∷ 104 ∷ 100 ∷ []) ∷ (116 ∷ 102 ∷ 100 ∷ 116 ∷ []) ∷ (116 ∷ 114 ∷ 117 ∷ 110 ∷ []) ∷ [])
unfolding be
letters = refl

-- an hdlr is read in mdia, and in minf (where QuickTime has one) it is not
hdlr-in-mdia : listed mdia hdlr places ≡ true
unfolding listed places when
hdlr-in-mdia = refl

hdlr-in-minf : listed minf hdlr places ≡ false
unfolding listed places when
hdlr-in-minf = refl

mdat-in-moov : listed moov mdat places ≡ false
unfolding listed places when
mdat-in-moov = refl

mdat-at-top : listed file mdat places ≡ true
unfolding listed places when
mdat-at-top = refl

-- a trak is entered anywhere, an stsd and a sample entry in their place alone
trak-elsewhere : held_of trak false ≡ Boxes 0
unfolding when
trak-elsewhere = refl

stsd-placed : held_of stsd true ≡ Counted 8
unfolding when
stsd-placed = refl

stsd-elsewhere : held_of stsd false ≡ Nothing
unfolding when
stsd-elsewhere = refl

mp4a-placed : held_of mp4a true ≡ Boxes 28
unfolding when
mp4a-placed = refl
