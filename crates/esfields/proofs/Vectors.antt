-- Worked examples of the definitions, computed. Assumes nothing.
use Rattle.std.specs.Prelude.{Ok, Err}
use mathlib.Core.Path.{◌≡◌, refl}
use mathlib.Core.List.{List, [], ◌∷◌, ◌++◌}
use Prim.Native.Nat.{ℕ}
use lib.ListN.{length, replicate}
use Rattle.numbers.specs.Number.{be, bytes}
use Rattle.numbers.specs.Field.{field, when}
use Rattle.numbers.specs.declared.Refusal.TheVariants as refusal
use Rattle.put.specs.Put.{wrote}
use Rattle.esfields.specs.EsFields.{stream, fields_of, size_of, fields_in}

-- no flag is set, but for the priority
usual : fields_of (9 ∷ 0 ∷ 1 ∷ 0x1f ∷ []) 1 ≡ Ok (stream 1 0x1f 0 0, 4, 4, 4)
unfolding be field when
usual = refl

depends : fields_of (0 ∷ 1 ∷ 0x80 ∷ 0 ∷ 7 ∷ []) 0 ≡ Ok (stream 1 0x80 7 0, 5, 5, 5)
unfolding be field when
depends = refl

located : fields_of (0 ∷ 1 ∷ 0x40 ∷ 2 ∷ 0x61 ∷ 0x62 ∷ 5 ∷ []) 0 ≡ Ok (stream 1 0x40 0 0, 4, 6, 6)
unfolding be field when
located = refl

clocked : fields_of (0 ∷ 1 ∷ 0x20 ∷ 0 ∷ 8 ∷ []) 0 ≡ Ok (stream 1 0x20 0 8, 3, 3, 5)
unfolding be field when
clocked = refl

every : fields_of (0 ∷ 1 ∷ 0xe0 ∷ 0 ∷ 7 ∷ 1 ∷ 0x61 ∷ 0 ∷ 8 ∷ []) 0 ≡ Ok (stream 1 0xe0 7 8, 6, 7, 9)
unfolding be field when
every = refl

-- each field cut
cut-id : fields_of (0 ∷ []) 0 ≡ Err (refusal.Cut 0)
unfolding be field when
cut-id = refl

cut-flags : fields_of (0 ∷ 1 ∷ []) 0 ≡ Err (refusal.Cut 2)
unfolding be field when
cut-flags = refl

cut-depends : fields_of (0 ∷ 1 ∷ 0x80 ∷ 0 ∷ []) 0 ≡ Err (refusal.Cut 3)
unfolding be field when
cut-depends = refl

cut-length : fields_of (0 ∷ 1 ∷ 0xc0 ∷ 0 ∷ 7 ∷ []) 0 ≡ Err (refusal.Cut 5)
unfolding be field when
cut-length = refl

cut-url : fields_of (0 ∷ 1 ∷ 0x40 ∷ 2 ∷ 0x61 ∷ []) 0 ≡ Err (refusal.Cut 4)
unfolding be field when
cut-url = refl

cut-clock : fields_of (0 ∷ 1 ∷ 0x60 ∷ 1 ∷ 0x61 ∷ 0 ∷ []) 0 ≡ Err (refusal.Cut 5)
unfolding be field when
cut-clock = refl

-- WRITING

written : fields_in (stream 1 0xe0 7 8) (0x61 ∷ []) 1 (replicate 11 9) ≡ wrote (Ok 10) (9 ∷ 0 ∷ 1 ∷ 0xe0 ∷ 0 ∷ 7 ∷ 1 ∷ 0x61 ∷ 0 ∷ 8 ∷ 9 ∷ [])
unfolding bytes when
written = refl

usual-written : fields_in (stream 1 0x1f 0 0) [] 0 (replicate 3 9) ≡ wrote (Ok 3) (0 ∷ 1 ∷ 0x1f ∷ [])
unfolding bytes when
usual-written = refl

size-most : size_of (stream 1 0x40 0 0) (replicate 255 7) ≡ Ok 259
unfolding bytes when
size-most = refl

size-past : size_of (stream 1 0x40 0 0) (replicate 256 7) ≡ Err refusal.Unwritable
unfolding bytes when
size-past = refl

-- a value whose flag is not set
no-depends : size_of (stream 1 0 7 0) [] ≡ Err refusal.Unwritable
unfolding bytes when
no-depends = refl

no-url : size_of (stream 1 0 0 0) (0x61 ∷ []) ≡ Err refusal.Unwritable
unfolding bytes when
no-url = refl

no-clock : fields_in (stream 1 0 0 8) [] 0 (replicate 9 9) ≡ wrote (Err refusal.Unwritable) (replicate 9 9)
unfolding bytes when
no-clock = refl

no_room : fields_in (stream 1 0x80 7 0) [] 1 (replicate 5 9) ≡ wrote (Err (refusal.TooSmall 6)) (replicate 5 9)
unfolding bytes when
no_room = refl

no-sum : fields_in (stream 1 0 0 0) [] 0xffff_ffff_ffff_fffe (replicate 5 9) ≡ wrote (Err refusal.Overflow) (replicate 5 9)
unfolding bytes when
no-sum = refl
