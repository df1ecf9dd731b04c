-- Worked examples of the definitions, computed. Assumes nothing.
use mathlib.Core.Path.{◌≡◌, refl}
use mathlib.Core.List.{List, [], ◌++◌}
use Prim.Native.Nat.{ℕ}
use Rattle.numbers.specs.Number.{be, bytes}
use Rattle.numbers.specs.Field.{field, when}
use Rattle.places.specs.Kinds as kinds
use Rattle.layout.specs.Rule.{rule_of}
use Rattle.layout.specs.Read.{one, decode}
use Rattle.children.specs.Children.{row_of, first_in, nth_in}
use Rattle.children.proofs.Example.{of}
use Rattle.trak.specs.Trak.{within, tkhd_of, mdhd_of, hdlr_of, stbl_of, stsz_of, stsd_of, entry_of, missing_in_mdia, missing_in_stbl}
use Rattle.trak.proofs.Example as example

-- a sample entry that is not looked into
abbrev entry : List ℕ
entry = bytes 8 0x8_7478_3367

abbrev text : ℕ
text = 0x7362746c

-- a byte behind the trak is no part of it
abbrev small : List ℕ
small = example.trak text entry example.listed ++ bytes 1 7

abbrev free : List ℕ
free = bytes 8 0x8_6672_6565

trak-tkhd : tkhd_of small ≡ example.tkhd
unfolding be bytes field when rule_of one decode row_of first_in within
trak-tkhd = refl

trak-mdhd : mdhd_of small ≡ example.mdhd
unfolding be bytes field when rule_of one decode row_of first_in within
trak-mdhd = refl

trak-hdlr : hdlr_of small ≡ example.hdlr text
unfolding be bytes field when rule_of one decode row_of first_in within
trak-hdlr = refl

trak-stbl : stbl_of small ≡ example.stbl entry example.listed
unfolding be bytes field when rule_of one decode row_of first_in within
trak-stbl = refl

trak-stsz : stsz_of small ≡ example.listed
unfolding be bytes field when rule_of one decode row_of first_in within
trak-stsz = refl

trak-stsd : stsd_of small ≡ example.stsd entry
unfolding be bytes field when rule_of one decode row_of first_in within
trak-stsd = refl

trak-entry : entry_of small ≡ entry
unfolding be bytes field when rule_of one decode row_of first_in nth_in within
trak-entry = refl

-- it need not be the first of its boxes
trak-second : tkhd_of (of kinds.trak (free ++ example.tkhd)) ≡ example.tkhd
unfolding be bytes field when rule_of one decode row_of first_in within
trak-second = refl

-- a fault comes before it
trak-fault : tkhd_of (of kinds.trak (bytes 8 0x7_6672_6565 ++ example.tkhd)) ≡ []
unfolding be bytes field when rule_of one decode row_of first_in within
trak-fault = refl

-- what is lent is no trak
trak-other : tkhd_of (of kinds.mdia (example.tkhd)) ≡ []
unfolding be bytes field when rule_of one decode row_of first_in within
trak-other = refl

-- a box counts in its place alone
trak-misplaced : mdhd_of (of kinds.trak (example.mdhd)) ≡ []
unfolding be bytes field when rule_of one decode row_of first_in within
trak-misplaced = refl

-- what is missing: the first on the way
missing-mdia : missing_in_mdia kinds.mdhd (of kinds.trak example.tkhd) ≡ kinds.mdia
unfolding be bytes field when rule_of one decode row_of first_in within
missing-mdia = refl

missing-mdhd : missing_in_mdia kinds.mdhd (of kinds.trak (of kinds.mdia [])) ≡ kinds.mdhd
unfolding be bytes field when rule_of one decode row_of first_in within
missing-mdhd = refl

missing-mdia-too : missing_in_stbl kinds.stsz (of kinds.trak []) ≡ kinds.mdia
unfolding be bytes field when rule_of one decode row_of first_in within
missing-mdia-too = refl

missing-minf : missing_in_stbl kinds.stsz (of kinds.trak (of kinds.mdia [])) ≡ kinds.minf
unfolding be bytes field when rule_of one decode row_of first_in within
missing-minf = refl

missing-stbl : missing_in_stbl kinds.stsz (of kinds.trak (of kinds.mdia (of kinds.minf []))) ≡ kinds.stbl
unfolding be bytes field when rule_of one decode row_of first_in within
missing-stbl = refl

missing-stsz : missing_in_stbl kinds.stsz (of kinds.trak (of kinds.mdia (of kinds.minf (of kinds.stbl [])))) ≡ kinds.stsz
unfolding be bytes field when rule_of one decode row_of first_in within
missing-stsz = refl
