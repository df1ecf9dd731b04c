-- Worked examples of the definitions, computed. Assumes nothing.
use mathlib.Core.Path.{◌≡◌, refl}
use Prim.Native.Nat.{ℕ}
use mathlib.Core.List.{List, [], ◌∷◌, ◌++◌}
use mathlib.Core.Bool.{true, false}
use lib.ListN.{replicate}
use Rattle.numbers.specs.Number.{be, bytes}
use Rattle.numbers.specs.Field.{when, field}
use Rattle.places.specs.Kinds.{ftyp, mdat}
use Rattle.kin.specs.Kin.{Boxes, boxes}
use Rattle.verdicts.specs.Sweep.{in_some}
use Rattle.payloads.specs.Payloads.{span, payloads_in, payloads_from, next_in, next_of}
use Rattle.payloads.specs.declared.Payload.TheVariants.{At, End}

-- an ftyp of 8 bytes; an mdat of 3 bytes; one of 2 bytes, with its size in 64 bits; an empty one, whose size 0 says that it
-- goes up to the file's end
abbrev file : List ℕ
file =
    (bytes 4 8 ++ bytes 4 ftyp) ++ (bytes 4 11 ++ bytes 4 mdat ++ replicate 3 7) ++ (bytes 4 1 ++ bytes 4 mdat ++ bytes 8 18 ++ replicate 2 7)
    ++ (bytes 4 0 ++ bytes 4 mdat)

abbrev of : List ℕ → Boxes
of placed = boxes (0 ∷ 8 ∷ 19 ∷ 37 ∷ []) (8 ∷ 11 ∷ 18 ∷ 8 ∷ []) (ftyp ∷ mdat ∷ mdat ∷ mdat ∷ []) (0 ∷ 0 ∷ 0 ∷ 0 ∷ []) placed

abbrev tables : Boxes
tables = of (1 ∷ 1 ∷ 1 ∷ 1 ∷ [])

all : payloads_from file tables 4 0 ≡ span 16 19 ∷ span 35 37 ∷ span 45 45 ∷ []
unfolding be bytes field when payloads_in
all = refl

-- an mdat that names a parent is in another box, and holds no media data (A39)
inner : payloads_from file (boxes (0 ∷ 8 ∷ 19 ∷ 37 ∷ []) (8 ∷ 11 ∷ 18 ∷ 8 ∷ []) (ftyp ∷ mdat ∷ mdat ∷ mdat ∷ []) (0 ∷ 0 ∷ 1 ∷ 0 ∷ []) (1 ∷ 1 ∷ 1 ∷ 1 ∷ [])) 4 0 ≡ span 16 19 ∷ span 45 45 ∷ []
unfolding be bytes field when payloads_in
inner = refl

-- one after the other: each tells the row from which to go on
first : next_of file tables 4 0 ≡ At 16 19 2
unfolding be bytes field when next_in
first = refl

wide : next_of file tables 4 2 ≡ At 35 37 3
unfolding be bytes field when next_in
wide = refl

empty : next_of file tables 4 3 ≡ At 45 45 4
unfolding be bytes field when next_in
empty = refl

end : next_of file tables 4 4 ≡ End
unfolding next_in
end = refl

-- from far behind the last row there is none either, and a box that is not among the recorded is none
far : next_of file tables 4 18446744073709551615 ≡ End
unfolding next_in
far = refl

unrecorded : payloads_from file tables 2 0 ≡ span 16 19 ∷ []
unfolding be bytes field when payloads_in
unrecorded = refl

-- an mdat that does not stand in its place holds no media data
unplaced : payloads_from file (of (1 ∷ 0 ∷ 1 ∷ 0 ∷ [])) 4 0 ≡ span 35 37 ∷ []
unfolding be bytes field when payloads_in
unplaced = refl

-- neither a header's last byte nor the byte after a payload is in it
before-first : in_some 15 (payloads_from file tables 4 0) ≡ false
unfolding be bytes field when payloads_in
before-first = refl

first_byte : in_some 16 (payloads_from file tables 4 0) ≡ true
unfolding be bytes field when payloads_in
first_byte = refl

last_byte : in_some 18 (payloads_from file tables 4 0) ≡ true
unfolding be bytes field when payloads_in
last_byte = refl

behind-last : in_some 19 (payloads_from file tables 4 0) ≡ false
unfolding be bytes field when payloads_in
behind-last = refl

-- the 64-bit size is header
wide-size : in_some 34 (payloads_from file tables 4 0) ≡ false
unfolding be bytes field when payloads_in
wide-size = refl

-- TABLES THAT NO FILE HAS

-- a box that goes past the file ends with it; one that starts behind the file, or is smaller than its header, is empty
past : payloads_from file (boxes (37 ∷ 18446744073709551615 ∷ 8 ∷ []) (18446744073709551615 ∷ 18446744073709551615 ∷ 3 ∷ []) (mdat ∷ mdat ∷ mdat ∷ []) [] (1 ∷ 1 ∷ 1 ∷ [])) 3 0
    ≡ span 45 45 ∷ span 45 45 ∷ span 11 11 ∷ []
unfolding be bytes field when payloads_in
past = refl
