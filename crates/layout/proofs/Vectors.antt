-- Worked examples of the definitions, computed: one row with every kind of field. Assumes nothing.
use Rattle.std.specs.Prelude.{Result, Ok, Err, Some, None}
use mathlib.Core.Path.{◌≡◌, refl}
use mathlib.Core.List.{List, [], ◌∷◌, ◌++◌}
use mathlib.Core.Bool.{true, false}
use Prim.Native.Nat.{ℕ, ◌+◌}
use lib.ListN.{length, replicate}
use Rattle.numbers.specs.Number.{be, bytes}
use Rattle.numbers.specs.Field.{field, when}
use Rattle.numbers.specs.declared.Refusal.TheVariants as refusal
use Rattle.numbers.specs.declared.Refusal.{Refusal}
use Rattle.put.specs.Put.{wrote}
use Rattle.layout.specs.Rule.{rule_of}
use Rattle.layout.specs.Read.{one, decode, read_of, rest_of}
use Rattle.layout.specs.Write.{lay, encode, write_of, padded, slotted}
use Rattle.layout.specs.Canonical.{standard, exact, canonical_of, slots, most, limit}
use Rattle.layout.specs.Table.{cut_of}
use Rattle.layout.specs.declared.Field.{Field}
use Rattle.layout.specs.declared.Field.TheVariants.{Number, Reserved, Wide, Optional, Least, Version, Flags}
use Rattle.layout.specs.declared.read.Fields.{Fields}

-- a time of 4 or 8 bytes, a field under flag 2, two reserved bytes that are 3, a number that is not 0, a number
abbrev row : List Field
row = padded (Version 0 1 ∷ Flags ∷ Wide 4 8 ∷ Optional 4 2 ∷ Reserved 2 3 ∷ Least 1 1 ∷ Number 2 ∷ [])

abbrev kind : ℕ
kind = 0x61626364

abbrev box : List ℕ → List ℕ
box body = bytes 4 (8 + length body) ++ bytes 4 kind ++ body

abbrev of : List ℕ → ℕ → Result Fields Refusal
of values at = Ok (record { place = at; end = at; values = slotted values })

-- version 1, flag 2 set
abbrev wide : List ℕ
wide = box (bytes 1 1 ++ bytes 3 2 ++ bytes 8 5 ++ bytes 4 6 ++ bytes 2 3 ++ bytes 1 7 ++ bytes 2 8)

read_wide : read_of kind row wide ≡ of (1 ∷ 2 ∷ 5 ∷ 6 ∷ 7 ∷ 8 ∷ []) 29
unfolding be bytes field when rule_of one decode
read_wide = refl

write-wide : write_of kind row (slotted (1 ∷ 2 ∷ 5 ∷ 6 ∷ 7 ∷ 8 ∷ [])) [] (replicate 30 9) ≡ wrote (Ok 29) (wide ++ replicate 1 9)
unfolding bytes when rule_of lay encode
write-wide = refl

-- version 0, flag 2 not set: what is not there is 0, and keeps its slot
abbrev narrow : List ℕ
narrow = box (bytes 1 0 ++ bytes 3 1 ++ bytes 4 5 ++ bytes 2 3 ++ bytes 1 7 ++ bytes 2 8)

read-narrow : read_of kind row narrow ≡ of (0 ∷ 1 ∷ 5 ∷ 0 ∷ 7 ∷ 8 ∷ []) 21
unfolding be bytes field when rule_of one decode
read-narrow = refl

-- a value under a flag that is not set is 13
write-unset : write_of kind row (slotted (0 ∷ 1 ∷ 5 ∷ 6 ∷ 7 ∷ 8 ∷ [])) [] (replicate 30 9) ≡ wrote (Err refusal.Unwritable) (replicate 30 9)
unfolding bytes when rule_of lay encode
write-unset = refl

-- a tail is written behind the fields, and counts in the size
write-tail : write_of kind (padded (Number 1 ∷ [])) (slotted (5 ∷ [])) (bytes 2 258) (replicate 11 9) ≡ wrote (Ok 11) (box (bytes 1 5 ++ bytes 2 258))
unfolding bytes when rule_of lay encode
write-tail = refl

-- what lies behind the fields ends where the box does, also where the bytes go on
abbrev tailed : List ℕ
tailed = box (bytes 1 5 ++ bytes 2 258) ++ bytes 1 9

read-rest : rest_of (read_of kind (padded (Number 1 ∷ [])) tailed) tailed ≡ 1 ∷ 2 ∷ []
unfolding be bytes field when rule_of one decode
read-rest = refl

-- there may be nothing, and there is nothing in a box that is refused
empty-rest : rest_of (read_of kind (padded (Number 3 ∷ [])) tailed) tailed ≡ []
unfolding be bytes field when rule_of one decode
empty-rest = refl

refused-rest : rest_of (read_of kind (padded (Number 4 ∷ [])) tailed) tailed ≡ []
unfolding be bytes field when rule_of one decode
refused-rest = refl

-- the first fault, field by field: 7 for the version, 8 for a value, 1 for what is cut; another type is 8 at 4
bad-version : read_of kind row (box (bytes 1 2)) ≡ Err (refusal.Version 8)
unfolding be bytes field when rule_of one decode
bad-version = refl

least : read_of kind row (box (bytes 1 0 ++ bytes 3 0 ++ bytes 4 5 ++ bytes 2 3 ++ bytes 1 0)) ≡ Err (refusal.Value 18)
unfolding be bytes field when rule_of one decode
least = refl

cut-last : read_of kind row (box (bytes 1 0 ++ bytes 3 0 ++ bytes 4 5 ++ bytes 2 3 ++ bytes 1 7 ++ bytes 1 8)) ≡ Err (refusal.Cut 19)
unfolding be bytes field when rule_of one decode
cut-last = refl

other : read_of 0x61626365 row wide ≡ Err (refusal.Value 4)
unfolding be bytes field when rule_of one decode
other = refl

-- reserved bytes may have any value, and are canonical where they have their own
any-reserved : read_of kind row (box (bytes 1 0 ++ bytes 3 1 ++ bytes 4 5 ++ bytes 2 4 ++ bytes 1 7 ++ bytes 2 8)) ≡ of (0 ∷ 1 ∷ 5 ∷ 0 ∷ 7 ∷ 8 ∷ []) 21
unfolding be bytes field when rule_of one decode
any-reserved = refl

own-reserved : standard row narrow 8 0 0 ≡ true
unfolding be bytes field when rule_of standard
own-reserved = refl

other-reserved : standard row (box (bytes 1 0 ++ bytes 3 1 ++ bytes 4 5 ++ bytes 2 4 ++ bytes 1 7 ++ bytes 2 8)) 8 0 0 ≡ false
unfolding be bytes field when rule_of standard
other-reserved = refl

-- canonical: as we write it, with as many bytes behind the fields as are asked for
canonical-wide : canonical_of kind row 0 wide ≡ true
unfolding be bytes field when rule_of one decode standard exact
canonical-wide = refl

canonical-tail : canonical_of kind (padded (Number 1 ∷ [])) 2 (box (bytes 1 5 ++ bytes 2 258)) ≡ true
unfolding be bytes field when rule_of one decode standard exact
canonical-tail = refl

-- not canonical: the size in 8 bytes, and 0 for what goes to the end
long-size : canonical_of kind (padded (Number 1 ∷ [])) 0 (bytes 4 1 ++ bytes 4 kind ++ bytes 8 17 ++ bytes 1 5) ≡ false
unfolding be bytes field when rule_of one decode standard exact
long-size = refl

open-size : canonical_of kind (padded (Number 1 ∷ [])) 0 (bytes 4 0 ++ bytes 4 kind ++ bytes 1 5) ≡ false
unfolding be bytes field when rule_of one decode standard exact
open-size = refl

-- a byte behind the fields, in the box or behind it; one too few
trailing-byte : canonical_of kind (padded (Number 1 ∷ [])) 0 (box (bytes 1 5 ++ bytes 1 0)) ≡ false
unfolding be bytes field when rule_of one decode standard exact
trailing-byte = refl

byte-behind : canonical_of kind (padded (Number 1 ∷ [])) 0 (box (bytes 1 5) ++ bytes 1 0) ≡ false
unfolding be bytes field when rule_of one decode standard exact
byte-behind = refl

byte-missing : canonical_of kind (padded (Number 1 ∷ [])) 2 (box (bytes 1 5 ++ bytes 1 0)) ≡ false
unfolding be bytes field when rule_of one decode standard exact
byte-missing = refl

-- a reserved field with another value, which is read all the same
reserved-value : canonical_of kind row 0 (box (bytes 1 0 ++ bytes 3 1 ++ bytes 4 5 ++ bytes 2 4 ++ bytes 1 7 ++ bytes 2 8)) ≡ false
unfolding be bytes field when rule_of one decode standard exact
reserved-value = refl

-- what is refused: a version, a value, a field that is cut, another type, a header that is cut
refused-version : canonical_of kind row 0 (box (bytes 1 2 ++ bytes 3 1 ++ bytes 4 5 ++ bytes 2 3 ++ bytes 1 7 ++ bytes 2 8)) ≡ false
unfolding be bytes field when rule_of one decode standard exact
refused-version = refl

refused-value : canonical_of kind row 0 (box (bytes 1 0 ++ bytes 3 1 ++ bytes 4 5 ++ bytes 2 3 ++ bytes 1 0 ++ bytes 2 8)) ≡ false
unfolding be bytes field when rule_of one decode standard exact
refused-value = refl

refused-cut : canonical_of kind row 0 (box (bytes 1 0 ++ bytes 3 1 ++ bytes 4 5 ++ bytes 2 3 ++ bytes 1 7 ++ bytes 1 8)) ≡ false
unfolding be bytes field when rule_of one decode standard exact
refused-cut = refl

refused-type : canonical_of 0x61626365 row 0 wide ≡ false
unfolding be bytes field when rule_of one decode standard exact
refused-type = refl

refused-header : canonical_of kind row 0 (bytes 4 7 ++ bytes 3 1) ≡ false
unfolding be bytes field when rule_of one decode standard exact
refused-header = refl

-- slots, and the largest value in one
six : slots row ≡ 6
unfolding slots rule_of when
six = refl

widest : limit row 2 ≡ 0xffff_ffff_ffff_ffff
unfolding limit most slots rule_of when
widest = refl

-- tables
uncut : cut_of 2 4 (replicate 9 0) 1 ≡ None
unfolding cut_of when
uncut = refl

cut_at : cut_of 9 4 (replicate 9 0) 0 ≡ Some 8
unfolding cut_of when
cut_at = refl
