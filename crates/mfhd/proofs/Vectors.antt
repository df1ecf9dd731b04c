-- Worked examples of the definitions, computed. Assumes nothing.
use Rattle.std.specs.Prelude.{Ok, Err}
use mathlib.Core.Path.{◌≡◌, refl}
use mathlib.Core.List.{List, ◌++◌}
use Prim.Native.Nat.{ℕ}
use lib.ListN.{replicate}
use Rattle.numbers.specs.Number.{be, bytes}
use Rattle.numbers.specs.Field.{field, when}
use Rattle.numbers.specs.declared.Refusal.TheVariants as refusal
use Rattle.put.specs.Put.{wrote}
use Rattle.layout.specs.Rule.{rule_of}
use Rattle.layout.specs.Read.{one, decode}
use Rattle.layout.specs.Write.{lay, encode}
use Rattle.rounds.proofs.Example.{box}
use Rattle.mfhd.specs.Mfhd as mfhd-is
use Rattle.mfhd.specs.declared.Mfhd.{Mfhd}

abbrev seventh : Mfhd
seventh = record { version = 0; flags = 0; sequence_number = 7 }

abbrev mfhd-7 : List ℕ
mfhd-7 = box 0x6d666864 0 0 (bytes 4 7)

mfhd-read : mfhd-is.mfhd_of mfhd-7 ≡ Ok seventh
unfolding be bytes field when rule_of one decode
mfhd-read = refl

-- bytes after the known fields are skipped, in the box and behind it
mfhd-longer : mfhd-is.mfhd_of (box 0x6d666864 0 0 (bytes 4 7 ++ bytes 2 1) ++ bytes 2 2) ≡ Ok seventh
unfolding be bytes field when rule_of one decode
mfhd-longer = refl

-- the number is cut by the box, though the part goes on
mfhd-cut : mfhd-is.mfhd_of (box 0x6d666864 0 0 (bytes 3 7) ++ bytes 4 0) ≡ Err (refusal.Cut 12)
unfolding be bytes field when rule_of one decode
mfhd-cut = refl

mfhd-version : mfhd-is.mfhd_of (box 0x6d666864 1 0 (bytes 4 7)) ≡ Err (refusal.Version 8)
unfolding be bytes field when rule_of one decode
mfhd-version = refl

mfhd-other : mfhd-is.mfhd_of (box 0x6d646864 0 0 (bytes 4 7)) ≡ Err (refusal.Value 4)
unfolding be bytes field when rule_of one decode
mfhd-other = refl

-- what lies past the written length stays
mfhd-written : mfhd-is.mfhd_in seventh (replicate 20 9) ≡ wrote (Ok 16) (mfhd-7 ++ replicate 4 9)
unfolding bytes when rule_of lay encode
mfhd-written = refl

mfhd-too-small : mfhd-is.mfhd_in seventh (replicate 15 9) ≡ wrote (Err (refusal.TooSmall 16)) (replicate 15 9)
unfolding bytes when rule_of lay encode
mfhd-too-small = refl
