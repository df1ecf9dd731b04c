-- Worked examples of the definitions, computed. Assumes nothing.
use Rattle.std.specs.Prelude.{Ok, Err, Some, None}
use mathlib.Core.Path.{◌≡◌, refl}
use mathlib.Core.List.{List, [], ◌∷◌, ◌++◌}
use Prim.Native.Nat.{ℕ, ◌+◌}
use lib.ListN.{replicate}
use Rattle.numbers.specs.Number.{be, bytes}
use Rattle.numbers.specs.Field.{field, when}
use Rattle.numbers.specs.declared.Refusal.TheVariants as refusal
use Rattle.put.specs.Put.{wrote}
use Rattle.layout.specs.Rule.{rule_of}
use Rattle.layout.specs.Read.{one, decode}
use Rattle.layout.specs.Write.{lay, encode}
use Rattle.children.specs.Children.{row_of, first_in, nth_in, whole_in, first_of, whole_of, place_of, content_of, container_in, child_of, nth_of}
use Rattle.children.proofs.Example.{of}

-- a type of parents, and three of children
abbrev home : ℕ
home = 0x61616161

abbrev a : ℕ
a = 0x61626364

abbrev b : ℕ
b = 0x61626365

abbrev k : ℕ
k = 0x61626366

-- two of one type, and one of another between them; the bytes go on behind the box
abbrev several : List ℕ
several = of a (1 ∷ []) ++ of b [] ++ of a []

-- the first of each type, where it begins
first-a : first_of home a (of home several ++ of k []) ≡ Ok (Some 8)
unfolding be bytes field when rule_of one decode row_of first_in whole_in
first-a = refl

first-b : first_of home b (of home several ++ of k []) ≡ Ok (Some 17)
unfolding be bytes field when rule_of one decode row_of first_in whole_in
first-b = refl

-- what lies behind the box is not in it
no-k : first_of home k (of home several ++ of k []) ≡ (Ok None)
unfolding be bytes field when rule_of one decode row_of first_in whole_in
no-k = refl

place-b : place_of home b (of home several) ≡ Some 17
unfolding be bytes field when rule_of one decode row_of first_in whole_in
place-b = refl

whole-several : whole_of home (of home several) ≡ (Ok tt)
unfolding be bytes field when rule_of one decode row_of first_in whole_in
whole-several = refl

-- a container may be empty
whole-empty : whole_of home (of home []) ≡ (Ok tt)
unfolding be bytes field when rule_of one decode row_of first_in whole_in
whole-empty = refl

-- a box of another type is 8 at 4
other-type : first_of home b (of a several) ≡ Err (refusal.Value 4)
unfolding be bytes field when rule_of one decode row_of first_in whole_in
other-type = refl

-- the header's own fault: the box passes what is lent
own-fault : whole_of home (bytes 4 9 ++ bytes 4 home) ≡ Err (refusal.Cut 0)
unfolding be bytes field when rule_of one decode row_of first_in whole_in
own-fault = refl

-- size 0 goes on to the end of what is lent
to_the_end : first_of home b (bytes 4 0 ++ bytes 4 home ++ several) ≡ Ok (Some 17)
unfolding be bytes field when rule_of one decode row_of first_in whole_in
to_the_end = refl

-- behind a header of 16 bytes the children begin at 16
large : first_of home a (bytes 4 1 ++ bytes 4 home ++ bytes 8 24 ++ of a []) ≡ Ok (Some 16)
unfolding be bytes field when rule_of one decode row_of first_in whole_in
large = refl

-- behind its first child another passes its parent by a byte: the first comes before the fault
abbrev past : List ℕ
past = of home (of a [] ++ bytes 4 9 ++ bytes 4 b) ++ bytes 1 0

past_first : first_of home a past ≡ Ok (Some 8)
unfolding be bytes field when rule_of one decode row_of first_in whole_in
past_first = refl

past-behind : first_of home b past ≡ Err (refusal.Cut 16)
unfolding be bytes field when rule_of one decode row_of first_in whole_in
past-behind = refl

past-place : place_of home b past ≡ None
unfolding be bytes field when rule_of one decode row_of first_in whole_in
past-place = refl

past-whole : whole_of home past ≡ Err (refusal.Cut 16)
unfolding be bytes field when rule_of one decode row_of first_in whole_in
past-whole = refl

-- a child with a size below 8 or, in a container, of 0 is 2; one whose header is cut is 1
small : whole_of home (of home (of a [] ++ bytes 4 7 ++ bytes 4 b)) ≡ Err (refusal.Size 16)
unfolding be bytes field when rule_of one decode row_of first_in whole_in
small = refl

child-to-the-end : whole_of home (of home (bytes 4 0 ++ bytes 4 b)) ≡ Err (refusal.Size 8)
unfolding be bytes field when rule_of one decode row_of first_in whole_in
child-to-the-end = refl

cut : whole_of home (of home (of a [] ++ bytes 3 0)) ≡ Err (refusal.Cut 16)
unfolding be bytes field when rule_of one decode row_of first_in whole_in
cut = refl

-- the first box of a type in bytes that are boxes, whole
first-box-a : child_of a several ≡ of a (1 ∷ [])
unfolding be bytes field when row_of first_in
first-box-a = refl

first-box-b : child_of b several ≡ of b []
unfolding be bytes field when row_of first_in
first-box-b = refl

no-box : child_of k several ≡ []
unfolding be bytes field when row_of first_in
no-box = refl

-- a fault comes before it: a size of 7
box-behind-fault : child_of b (of a [] ++ bytes 4 7 ++ bytes 4 k ++ of b []) ≡ []
unfolding be bytes field when row_of first_in
box-behind-fault = refl

box-before-fault : child_of a (of a [] ++ bytes 4 7 ++ bytes 4 k ++ of b []) ≡ of a []
unfolding be bytes field when row_of first_in
box-before-fault = refl

-- the i-th, counted from 0
box-0 : nth_of 0 several ≡ of a (1 ∷ [])
unfolding be bytes field when row_of nth_in
box-0 = refl

box-2 : nth_of 2 several ≡ of a []
unfolding be bytes field when row_of nth_in
box-2 = refl

no-box-3 : nth_of 3 several ≡ []
unfolding be bytes field when row_of nth_in
no-box-3 = refl

nth-behind-fault : nth_of 2 (of a [] ++ bytes 4 7 ++ bytes 4 k ++ of b []) ≡ []
unfolding be bytes field when row_of nth_in
nth-behind-fault = refl

-- the children's bytes, and a box around them
content : content_of home (of home several ++ of k []) ≡ several
unfolding be bytes field when rule_of one decode row_of first_in whole_in
content = refl

no-content : content_of home (of a several) ≡ []
unfolding be bytes field when rule_of one decode row_of first_in whole_in
no-content = refl

written : container_in home several (replicate 34 9) ≡ wrote (Ok 33) (of home several ++ replicate 1 9)
unfolding bytes when rule_of lay encode
written = refl

no_room : container_in home several (replicate 32 9) ≡ wrote (Err (refusal.TooSmall 33)) (replicate 32 9)
unfolding bytes when rule_of lay encode
no_room = refl
