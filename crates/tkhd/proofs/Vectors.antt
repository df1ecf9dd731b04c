-- Worked examples of the definitions, computed. Assumes nothing.
use Rattle.std.specs.Prelude.{Ok, Err}
use mathlib.Core.Path.{◌≡◌, refl}
use mathlib.Core.List.{List, ◌++◌}
use Prim.Native.Nat.{ℕ}
use lib.ListN.{replicate}
use Rattle.numbers.specs.Number.{be, bytes}
use Rattle.numbers.specs.Field.{field, when}
use Rattle.numbers.specs.declared.Refusal.TheVariants as refusal
use Rattle.put.specs.Put.{wrote}
use Rattle.layout.specs.Rule.{rule_of}
use Rattle.layout.specs.Read.{one, decode}
use Rattle.layout.specs.Write.{lay, encode}
use Rattle.rounds.proofs.Example.{box}
use Rattle.tkhd.specs.Tkhd as tkhd-is
use Rattle.tkhd.specs.declared.Tkhd.{Tkhd}

abbrev vga : Tkhd
vga = record { version = 0; flags = 3; creation_time = 1; modification_time = 2; track_id = 1; duration = 4500; layer = 0; alternate_group = 0; volume = 0x100; matrix_a = 0x10000; matrix_b = 0; matrix_u = 0; matrix_c = 0; matrix_d = 0x10000; matrix_v = 0; matrix_x = 0; matrix_y = 0; matrix_w = 0x4000_0000; width = 0x280_0000; height = 0x1e0_0000 }

abbrev vga-box : List ℕ
vga-box = box 0x746b6864 0 3 (bytes 4 1 ++ bytes 4 2 ++ bytes 4 1 ++ bytes 4 0 ++ bytes 4 4500 ++ bytes 8 0 ++ bytes 2 0 ++ bytes 2 0 ++ bytes 2 0x100 ++ bytes 2 0 ++ bytes 4 0x10000 ++ bytes 4 0 ++ bytes 4 0 ++ bytes 4 0 ++ bytes 4 0x10000 ++ bytes 4 0 ++ bytes 4 0 ++ bytes 4 0 ++ bytes 4 0x4000_0000 ++ bytes 4 0x280_0000 ++ bytes 4 0x1e0_0000)

-- 640 by 480, in 92 bytes
tkhd-read : tkhd-is.tkhd_of vga-box ≡ Ok vga
unfolding be bytes field when rule_of one decode
tkhd-read = refl

tkhd-written : tkhd-is.tkhd_in vga (replicate 93 9) ≡ wrote (Ok 92) (vga-box ++ replicate 1 9)
unfolding bytes when rule_of lay encode
tkhd-written = refl

tkhd-too-small : tkhd-is.tkhd_in vga (replicate 91 9) ≡ wrote (Err (refusal.TooSmall 92)) (replicate 91 9)
unfolding bytes when rule_of lay encode
tkhd-too-small = refl

-- track 0 is 8 (A18), behind two times of 4 bytes or of 8
tkhd-track-0 : tkhd-is.tkhd_of (box 0x746b6864 0 3 (bytes 8 0 ++ bytes 4 0)) ≡ Err (refusal.Value 20)
unfolding be bytes field when rule_of one decode
tkhd-track-0 = refl

tkhd-track-0-wide : tkhd-is.tkhd_of (box 0x746b6864 1 3 (bytes 8 0 ++ bytes 8 0 ++ bytes 4 0)) ≡ Err (refusal.Value 28)
unfolding be bytes field when rule_of one decode
tkhd-track-0-wide = refl

tkhd-cut : tkhd-is.tkhd_of (box 0x746b6864 0 3 (bytes 8 0 ++ bytes 4 1 ++ bytes 3 0)) ≡ Err (refusal.Cut 24)
unfolding be bytes field when rule_of one decode
tkhd-cut = refl
