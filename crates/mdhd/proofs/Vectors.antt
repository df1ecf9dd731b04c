-- Worked examples of the definitions, computed. Assumes nothing.
use Rattle.std.specs.Prelude.{Ok, Err}
use mathlib.Core.Path.{◌≡◌, refl}
use mathlib.Core.List.{List, ◌++◌}
use Prim.Native.Nat.{ℕ}
use lib.ListN.{replicate}
use Rattle.numbers.specs.Number.{be, bytes}
use Rattle.numbers.specs.Field.{field, when}
use Rattle.numbers.specs.declared.Refusal.TheVariants as refusal
use Rattle.put.specs.Put.{wrote}
use Rattle.layout.specs.Rule.{rule_of}
use Rattle.layout.specs.Read.{one, decode}
use Rattle.layout.specs.Write.{lay, encode}
use Rattle.rounds.proofs.Example.{box}
use Rattle.mdhd.specs.Mdhd as mdhd-is
use Rattle.mdhd.specs.declared.Mdhd.{Mdhd}

abbrev narrow : Mdhd
narrow = record { version = 0; flags = 0; creation_time = 1; modification_time = 2; timescale = 1000; duration = 4500; language = 0x55c4 }

abbrev wide : Mdhd
wide = record { version = 1; flags = 0; creation_time = 1; modification_time = 2; timescale = 1000; duration = 0x1_0000_0000; language = 0x55c4 }

abbrev narrow-box : List ℕ
narrow-box = box 0x6d646864 0 0 (bytes 4 1 ++ bytes 4 2 ++ bytes 4 1000 ++ bytes 4 4500 ++ bytes 2 0x55c4 ++ bytes 2 0)

abbrev wide-box : List ℕ
wide-box = box 0x6d646864 1 0 (bytes 8 1 ++ bytes 8 2 ++ bytes 4 1000 ++ bytes 8 0x1_0000_0000 ++ bytes 2 0x55c4 ++ bytes 2 0)

-- 32 bytes in version 0, 44 in version 1
mdhd-read : mdhd-is.mdhd_of narrow-box ≡ Ok narrow
unfolding be bytes field when rule_of one decode
mdhd-read = refl

mdhd-read-wide : mdhd-is.mdhd_of wide-box ≡ Ok wide
unfolding be bytes field when rule_of one decode
mdhd-read-wide = refl

mdhd-written : mdhd-is.mdhd_in narrow (replicate 33 9) ≡ wrote (Ok 32) (narrow-box ++ replicate 1 9)
unfolding bytes when rule_of lay encode
mdhd-written = refl

mdhd-written-wide : mdhd-is.mdhd_in wide (replicate 44 9) ≡ wrote (Ok 44) (wide-box ++ replicate 0 9)
unfolding bytes when rule_of lay encode
mdhd-written-wide = refl

-- timescale 0 is 8, at the timescale
mdhd-timescale-0 : mdhd-is.mdhd_of (box 0x6d646864 0 0 (bytes 4 1 ++ bytes 4 2 ++ bytes 4 0 ++ bytes 4 4500 ++ bytes 2 0x55c4 ++ bytes 2 0)) ≡ Err (refusal.Value 20)
unfolding be bytes field when rule_of one decode
mdhd-timescale-0 = refl

-- version 2 is 7
mdhd-version : mdhd-is.mdhd_of (box 0x6d646864 2 0 (bytes 4 1)) ≡ Err (refusal.Version 8)
unfolding be bytes field when rule_of one decode
mdhd-version = refl

mdhd-timescale-0-written : mdhd-is.mdhd_in (record { version = 0; flags = 0; creation_time = 1; modification_time = 2; timescale = 0; duration = 4500; language = 0x55c4 }) (replicate 32 9) ≡ wrote (Err refusal.Unwritable) (replicate 32 9)
unfolding bytes when rule_of lay encode
mdhd-timescale-0-written = refl
