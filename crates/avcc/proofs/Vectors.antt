-- Worked examples of the definitions, computed. Assumes nothing.
use Rattle.std.specs.Prelude.{Ok, Err}
use mathlib.Core.Path.{◌≡◌, refl}
use mathlib.Core.List.{List, [], ◌∷◌, ◌++◌}
use mathlib.Core.Bool.{true, false}
use Prim.Native.Nat.{ℕ, ◌+◌}
use lib.ListN.{length, replicate}
use Rattle.numbers.specs.Number.{be, bytes}
use Rattle.numbers.specs.Field.{field, when}
use Rattle.numbers.specs.declared.Refusal.TheVariants as refusal
use Rattle.put.specs.Put.{wrote}
use Rattle.layout.specs.Rule.{rule_of}
use Rattle.layout.specs.Read.{one, decode}
use Rattle.layout.specs.Write.{lay, encode}
use Rattle.sets.specs.Sets.{end_of}
use Rattle.avcc.specs.Avcc.{avcc, places, avcc_of, sps_list_of, pps_list_of, extension_of, sps_of, pps_of, avcc_in, ones}

abbrev box : List ℕ → List ℕ
box body = bytes 4 (8 + length body) ++ bytes 4 0x61766343 ++ body

-- THE BOX that the Rust's own test writes: one set of each kind

abbrev sequence : List ℕ
sequence =
    0x67 ∷ 0x64 ∷ 0x00 ∷ 0x0D ∷ 0xAC ∷ 0xD9 ∷ 0x41 ∷ 0x41 ∷ 0xFA ∷ 0x10 ∷ 0x00 ∷ 0x00 ∷ 0x03 ∷ 0x00 ∷ 0x10 ∷ 0x00 ∷ 0x00 ∷ 0x03 ∷ 0x03 ∷ 0x20 ∷ 0xF1 ∷ 0x42 ∷ 0x99
    ∷ 0x60 ∷ []

abbrev picture : List ℕ
picture = 0x68 ∷ 0xEB ∷ 0xE3 ∷ 0xCB ∷ 0x22 ∷ 0xC0 ∷ []

abbrev tested : List ℕ
tested = box (1 ∷ 100 ∷ 0 ∷ 13 ∷ 0xFF ∷ 0xE1 ∷ 0 ∷ 24 ∷ (sequence ++ (1 ∷ 0 ∷ 6 ∷ picture)))

tested-read : avcc_of tested ≡ Ok (avcc 100 0 13 3 1 1, places 14 40 49 49)
unfolding be bytes field when rule_of one decode end_of
tested-read = refl

tested-sps : sps_of 0 tested ≡ sequence
unfolding be bytes field when rule_of one decode end_of
tested-sps = refl

tested-pps : pps_of 0 tested ≡ picture
unfolding be bytes field when rule_of one decode end_of
tested-pps = refl

tested-rest : extension_of tested ≡ []
unfolding be bytes field when rule_of one decode end_of
tested-rest = refl

tested-written : avcc_in (avcc 100 0 13 3 1 1) (0 ∷ 24 ∷ sequence) (0 ∷ 6 ∷ picture) [] (replicate 50 9) ≡ wrote (Ok 49) (tested ++ (9 ∷ []))
unfolding be bytes field when rule_of lay encode end_of
tested-written = refl

tested-ones : ones tested ≡ true
unfolding be bytes
tested-ones = refl

-- TWO SPS, ONE PPS, an extension of four bytes, and bytes behind the box

abbrev two : List ℕ
two = box (1 ∷ 77 ∷ 64 ∷ 30 ∷ 0xFF ∷ 0xE2 ∷ 0 ∷ 2 ∷ 0x67 ∷ 1 ∷ 0 ∷ 1 ∷ 0x67 ∷ 1 ∷ 0 ∷ 1 ∷ 0x68 ∷ 0xFD ∷ 0xF8 ∷ 0xF8 ∷ 0 ∷ []) ++ bytes 3 7

two-read : avcc_of two ≡ Ok (avcc 77 64 30 3 2 1, places 14 21 25 29)
unfolding be bytes field when rule_of one decode end_of
two-read = refl

first-set : sps_of 0 two ≡ 0x67 ∷ 1 ∷ []
unfolding be bytes field when rule_of one decode end_of
first-set = refl

second-set : sps_of 1 two ≡ 0x67 ∷ []
unfolding be bytes field when rule_of one decode end_of
second-set = refl

-- there is no third: what follows is not among the SPS
third-set : sps_of 2 two ≡ []
unfolding be bytes field when rule_of one decode end_of
third-set = refl

two-pps : pps_of 0 two ≡ 0x68 ∷ []
unfolding be bytes field when rule_of one decode end_of
two-pps = refl

two-first : sps_list_of two ≡ 0 ∷ 2 ∷ 0x67 ∷ 1 ∷ 0 ∷ 1 ∷ 0x67 ∷ []
unfolding be bytes field when rule_of one decode end_of
two-first = refl

two-second : pps_list_of two ≡ 0 ∷ 1 ∷ 0x68 ∷ []
unfolding be bytes field when rule_of one decode end_of
two-second = refl

-- the extension ends where the box does
two-rest : extension_of two ≡ 0xFD ∷ 0xF8 ∷ 0xF8 ∷ 0 ∷ []
unfolding be bytes field when rule_of one decode end_of
two-rest = refl

-- NO SETS, and reserved bits that are zeros: they are not tested, and such a box is not canonical

abbrev bare : List ℕ
bare = box (1 ∷ 66 ∷ 0 ∷ 10 ∷ 1 ∷ 0 ∷ 0 ∷ [])

bare-read : avcc_of bare ≡ Ok (avcc 66 0 10 1 0 0, places 14 14 15 15)
unfolding be bytes field when rule_of one decode end_of
bare-read = refl

bare_set : sps_of 0 bare ≡ []
unfolding be bytes field when rule_of one decode end_of
bare_set = refl

bare-ones : ones bare ≡ false
unfolding be bytes
bare-ones = refl

-- the number of PPS has all of its eight bits: 33 PPS are no 1
pps-33 : avcc_of (box (1 ∷ 66 ∷ 0 ∷ 10 ∷ 0xFF ∷ 0xE0 ∷ 33 ∷ replicate 66 0)) ≡ Ok (avcc 66 0 10 3 0 33, places 14 14 81 81)
unfolding be bytes field when rule_of one decode end_of
pps-33 = refl

-- REFUSED

-- another version, at its byte
version-0 : avcc_of (box (0 ∷ 66 ∷ 0 ∷ 10 ∷ 0xFF ∷ 0xE0 ∷ 0 ∷ [])) ≡ Err (refusal.Value 8)
unfolding be bytes field when rule_of one decode end_of
version-0 = refl

version-2 : avcc_of (box (2 ∷ 66 ∷ [])) ≡ Err (refusal.Value 8)
unfolding be bytes field when rule_of one decode end_of
version-2 = refl

-- another type
another : avcc_of (bytes 4 8 ++ bytes 4 0x61766331) ≡ Err (refusal.Value 4)
unfolding be bytes field when rule_of one decode end_of
another = refl

-- the box passes the part
too_far : avcc_of (bytes 4 16 ++ bytes 4 0x61766343 ++ bytes 7 0) ≡ Err (refusal.Cut 0)
unfolding be bytes field when rule_of one decode end_of
too_far = refl

-- a byte that is not there
no-version : avcc_of (box []) ≡ Err (refusal.Cut 8)
unfolding be bytes field when rule_of one decode end_of
no-version = refl

no-count : avcc_of (box (1 ∷ 66 ∷ 0 ∷ 10 ∷ 0xFF ∷ [])) ≡ Err (refusal.Cut 13)
unfolding be bytes field when rule_of one decode end_of
no-count = refl

no_number : avcc_of (box (1 ∷ 66 ∷ 0 ∷ 10 ∷ 0xFF ∷ 0xE1 ∷ 0 ∷ 1 ∷ 0x67 ∷ [])) ≡ Err (refusal.Cut 17)
unfolding be bytes field when rule_of one decode end_of
no_number = refl

-- a length that is cut, and a set that is, of either kind; a cut set is not handed back
cut-length : avcc_of (box (1 ∷ 66 ∷ 0 ∷ 10 ∷ 0xFF ∷ 0xE1 ∷ 0 ∷ [])) ≡ Err (refusal.Cut 14)
unfolding be bytes field when rule_of one decode end_of
cut-length = refl

cut-set : avcc_of (box (1 ∷ 66 ∷ 0 ∷ 10 ∷ 0xFF ∷ 0xE1 ∷ 0 ∷ 3 ∷ 0x67 ∷ 1 ∷ [])) ≡ Err (refusal.Cut 16)
unfolding be bytes field when rule_of one decode end_of
cut-set = refl

cut_list : sps_list_of (box (1 ∷ 66 ∷ 0 ∷ 10 ∷ 0xFF ∷ 0xE1 ∷ 0 ∷ 3 ∷ 0x67 ∷ 1 ∷ [])) ≡ []
unfolding be bytes field when rule_of one decode end_of
cut_list = refl

cut-pps-length : avcc_of (box (1 ∷ 66 ∷ 0 ∷ 10 ∷ 0xFF ∷ 0xE0 ∷ 1 ∷ 0 ∷ [])) ≡ Err (refusal.Cut 15)
unfolding be bytes field when rule_of one decode end_of
cut-pps-length = refl

cut-pps : avcc_of (box (1 ∷ 66 ∷ 0 ∷ 10 ∷ 0xFF ∷ 0xE0 ∷ 1 ∷ 0 ∷ 2 ∷ 0x68 ∷ [])) ≡ Err (refusal.Cut 17)
unfolding be bytes field when rule_of one decode end_of
cut-pps = refl

-- NOT WRITTEN

too_small : avcc_in (avcc 66 0 10 3 0 0) [] [] [] (replicate 14 9) ≡ wrote (Err (refusal.TooSmall 15)) (replicate 14 9)
unfolding be bytes field when rule_of lay encode end_of
too_small = refl

just-room : avcc_in (avcc 66 0 10 3 0 0) [] [] [] (replicate 15 9) ≡ wrote (Ok 15) (box (1 ∷ 66 ∷ 0 ∷ 10 ∷ 0xFF ∷ 0xE0 ∷ 0 ∷ []))
unfolding be bytes field when rule_of lay encode end_of
just-room = refl

-- 13, also where there is no room: a size of lengths of more than 2 bits, 32 SPS, a list of one set less, of one more, and
-- one whose set is cut
size-4 : avcc_in (avcc 66 0 10 4 0 0) [] [] [] [] ≡ wrote (Err refusal.Unwritable) []
unfolding be bytes field when rule_of lay encode end_of
size-4 = refl

sps-32 : avcc_in (avcc 66 0 10 3 32 0) (replicate 64 0) [] [] [] ≡ wrote (Err refusal.Unwritable) []
unfolding be bytes field when rule_of lay encode end_of
sps-32 = refl

sps-31 : avcc_in (avcc 66 0 10 3 31 0) (replicate 62 0) [] [] [] ≡ wrote (Err (refusal.TooSmall 77)) []
unfolding be bytes field when rule_of lay encode end_of
sps-31 = refl

one_less : avcc_in (avcc 66 0 10 3 1 0) [] [] [] [] ≡ wrote (Err refusal.Unwritable) []
unfolding be bytes field when rule_of lay encode end_of
one_less = refl

one_more : avcc_in (avcc 66 0 10 3 0 0) [] (0 ∷ 0 ∷ []) [] [] ≡ wrote (Err refusal.Unwritable) []
unfolding be bytes field when rule_of lay encode end_of
one_more = refl

set-cut : avcc_in (avcc 66 0 10 3 0 1) [] (0 ∷ 2 ∷ 0x68 ∷ []) [] [] ≡ wrote (Err refusal.Unwritable) []
unfolding be bytes field when rule_of lay encode end_of
set-cut = refl
