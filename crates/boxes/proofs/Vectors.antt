-- Worked examples of the definitions, computed. Assumes nothing.
use Rattle.std.specs.Prelude.{Ok, Err}
use mathlib.Core.Path.{◌≡◌, refl}
use mathlib.Core.List.{List, [], ◌∷◌, ◌++◌}
use mathlib.Core.Bool.{Bool, true, false}
use Prim.Native.Nat.{ℕ}
use lib.ListN.{replicate}
use Rattle.numbers.specs.Number.{be, bytes}
use Rattle.numbers.specs.Field.{field, when}
use Rattle.numbers.specs.declared.Refusal.TheVariants as refusal
use Rattle.put.specs.Put.{wrote}
use Rattle.boxes.specs.Header.{header, header_of, header_in}
use Rattle.boxes.specs.Full.{full_of, full_in}

mdat : List ℕ
mdat = 0x6d ∷ 0x64 ∷ 0x61 ∷ 0x74 ∷ []

large : ℕ → List ℕ
large n = bytes 4 1 ++ mdat ++ bytes 8 n

-- case 9: a 64-bit size of 16 is accepted, 15 is 2 at the box's first byte
case-9-accepted : header_of (large 16) 0 false ≡ Ok (header 0x6d646174 16 16)
unfolding be bytes field when mdat large
case-9-accepted = refl

case-9-refused : header_of (large 15) 0 false ≡ Err (refusal.Size 0)
unfolding be bytes field when mdat large
case-9-refused = refl

-- a 64-bit size of 0 does not reach to the end
large-0 : header_of (large 0) 0 true ≡ Err (refusal.Size 0)
unfolding be bytes field when mdat large
large-0 = refl

-- a size that passes the parent by a byte is 1, also where it is too small besides
past : header_of (bytes 4 9 ++ mdat) 0 true ≡ Err (refusal.Cut 0)
unfolding be bytes field when mdat
past = refl

one-before-two : header_of (bytes 4 7 ++ (0 ∷ [])) 0 true ≡ Err (refusal.Cut 0)
unfolding be bytes field when
one-before-two = refl

small : header_of (bytes 4 7 ++ mdat) 0 true ≡ Err (refusal.Size 0)
unfolding be bytes field when mdat
small = refl

-- size 0 reaches to the end, at the top alone
rest : header_of (bytes 4 0 ++ mdat ++ (1 ∷ 2 ∷ 3 ∷ [])) 0 true ≡ Ok (header 0x6d646174 11 8)
unfolding be bytes field when mdat
rest = refl

nested : header_of (bytes 4 0 ++ mdat ++ (1 ∷ 2 ∷ 3 ∷ [])) 0 false ≡ Err (refusal.Size 0)
unfolding be bytes field when mdat
nested = refl

-- cut fields, at their own positions
cut-size : header_of (1 ∷ 2 ∷ 3 ∷ []) 0 true ≡ Err (refusal.Cut 0)
unfolding be field when
cut-size = refl

cut-type : header_of (bytes 4 1 ++ (0x6d ∷ [])) 0 true ≡ Err (refusal.Cut 4)
unfolding be bytes field when
cut-type = refl

cut-large : header_of (bytes 4 1 ++ mdat ++ (0 ∷ [])) 0 true ≡ Err (refusal.Cut 8)
unfolding be bytes field when mdat
cut-large = refl

-- written in 8 bytes up to 2 ^ 32 - 1, and in 16 from there on
written_small : header_in 0x6d646174 0xffff_ffff 0 (replicate 9 7) ≡ wrote (Ok 8) (255 ∷ 255 ∷ 255 ∷ 255 ∷ 0x6d ∷ 0x64 ∷ 0x61 ∷ 0x74 ∷ 7 ∷ [])
unfolding bytes when
written_small = refl

written-large : header_in 0x6d646174 0x1_0000_0000 0 (replicate 16 7) ≡ wrote (Ok 16) (0 ∷ 0 ∷ 0 ∷ 1 ∷ 0x6d ∷ 0x64 ∷ 0x61 ∷ 0x74 ∷ 0 ∷ 0 ∷ 0 ∷ 1 ∷ 0 ∷ 0 ∷ 0 ∷ 0 ∷ [])
unfolding bytes when
written-large = refl

no_room : header_in 0x6d646174 8 1 (replicate 8 7) ≡ wrote (Err (refusal.TooSmall 9)) (replicate 8 7)
unfolding bytes when
no_room = refl

version-and-flags : full_of (1 ∷ 0 ∷ 2 ∷ 1 ∷ []) 0 ≡ Ok (record { version = 1; flags = 0x201 })
unfolding be field when
version-and-flags = refl

flags-too-wide : full_in 1 0x100_0000 0 (replicate 4 7) ≡ wrote (Err refusal.Unwritable) (replicate 4 7)
unfolding bytes when
flags-too-wide = refl
