-- Worked examples of the definitions, computed. Assumes nothing.
use mathlib.Core.Path.{◌≡◌, refl}
use mathlib.Core.List.{List, [], ◌∷◌}
use Prim.Native.Nat.{ℕ}
use Rattle.numbers.specs.Field.{when}
use Rattle.places.specs.Kinds.{ftyp, moov, mvhd, trak, tkhd}
use Rattle.kin.specs.Kin.{Boxes, boxes}
use Rattle.inside.specs.Inside.{next_in, rows_in, next_of, inside_of, child}

-- an ftyp; a moov with an mvhd, two traks with a tkhd each, and a trak that does not stand in its place; a trak at the top
abbrev tables : Boxes
tables =
    boxes [] [] (ftyp ∷ moov ∷ mvhd ∷ trak ∷ tkhd ∷ trak ∷ tkhd ∷ trak ∷ trak ∷ []) (0 ∷ 0 ∷ 2 ∷ 2 ∷ 4 ∷ 2 ∷ 6 ∷ 2 ∷ 0 ∷ [])
    (1 ∷ 1 ∷ 1 ∷ 1 ∷ 1 ∷ 1 ∷ 1 ∷ 0 ∷ 1 ∷ [])

-- each is told by its row and 1, which names it as a parent
the-moov : child tables 9 moov 0 ≡ 2
unfolding child next_in when
the-moov = refl

all : inside_of tables 9 trak 2 0 ≡ 4 ∷ 6 ∷ []
unfolding rows_in when
all = refl

-- one after the other: each answer is the row from which to go on
first : next_of tables 9 trak 2 0 ≡ 4
unfolding next_in when
first = refl

second : next_of tables 9 trak 2 4 ≡ 6
unfolding next_in when
second = refl

-- what does not stand in its place does not count, nor what stands in another parent
end : next_of tables 9 trak 2 6 ≡ 0
unfolding next_in when
end = refl

-- from the row itself on, it is told again
same : next_of tables 9 trak 2 5 ≡ 6
unfolding next_in when
same = refl

-- the tkhd of the second trak, and none in the ftyp
its_own : child tables 9 tkhd 6 ≡ 7
unfolding child next_in when
its_own = refl

none : child tables 9 tkhd 1 ≡ 0
unfolding child next_in when
none = refl

-- a box behind the recorded is none, nor is there one from far behind the last row on
unrecorded : inside_of tables 5 trak 2 0 ≡ 4 ∷ []
unfolding rows_in when
unrecorded = refl

far : next_of tables 9 trak 2 18446744073709551615 ≡ 0
unfolding next_in
far = refl
