-- Worked examples of the definitions, computed. Assumes nothing.
use Rattle.std.specs.Prelude.{Ok, Err, Some, None}
use mathlib.Core.Path.{◌≡◌, refl}
use mathlib.Core.List.{List, [], ◌++◌}
use Prim.Native.Nat.{ℕ}
use lib.ListN.{replicate}
use lib.IntN.{pos, negsuc}
use Rattle.numbers.specs.Number.{be, bytes}
use Rattle.numbers.specs.Field.{field, when}
use Rattle.numbers.specs.declared.Refusal.TheVariants as refusal
use Rattle.put.specs.Put.{wrote}
use Rattle.signed.specs.Signed.{signed}
use Rattle.layout.specs.Rule.{rule_of}
use Rattle.layout.specs.Read.{one, decode}
use Rattle.layout.specs.Write.{lay, encode}
use Rattle.layout.specs.Table.{cut_of}
use Rattle.rounds.proofs.Example.{box}
use Rattle.trun.specs.Trun.{optional, trun_of, trun_in, offset_of, entry_of}
use Rattle.trun.specs.declared.Trun.{Trun}

-- a data offset, and of each sample its size and its composition offset
abbrev run : ℕ → ℕ → Trun
run version count = record { version = version; flags = 0xa01; sample_count = count; data_offset = 0xffff_fff8; first_sample_flags = 0 }

abbrev two : List ℕ
two = bytes 4 500 ++ bytes 4 7 ++ bytes 4 600 ++ bytes 4 0xffff_fffe

trun-read : trun_of (box 0x7472756e 1 0xa01 (bytes 4 2 ++ bytes 4 0xffff_fff8 ++ two)) ≡ Ok (run 1 2, 20)
unfolding be bytes field when rule_of one decode cut_of
trun-read = refl

-- the flags of the first sample, and samples that say nothing of themselves: no bytes, however many they are
abbrev silent : Trun
silent = record { version = 0; flags = 4; sample_count = 0xffff_ffff; data_offset = 0; first_sample_flags = 0x200_0000 }

trun-silent : trun_of (box 0x7472756e 0 4 (bytes 4 0xffff_ffff ++ bytes 4 0x200_0000)) ≡ Ok (silent, 20)
unfolding be bytes field when rule_of one decode cut_of
trun-silent = refl

-- the third sample has a size, and its offset is cut
trun-cut : trun_of (box 0x7472756e 1 0xa01 (bytes 4 3 ++ bytes 4 0xffff_fff8 ++ two ++ bytes 4 700 ++ bytes 3 0)) ≡ Err (refusal.Cut 40)
unfolding be bytes field when rule_of one decode cut_of
trun-cut = refl

trun-version-2 : trun_of (box 0x7472756e 2 0 (bytes 4 0)) ≡ Err (refusal.Version 8)
unfolding be bytes field when rule_of one decode cut_of
trun-version-2 = refl

trun-offset-cut : trun_of (box 0x7472756e 0 1 (bytes 4 0 ++ bytes 2 0)) ≡ Err (refusal.Cut 16)
unfolding be bytes field when rule_of one decode cut_of
trun-offset-cut = refl

-- of another type
trun-other : trun_of (box 0x74666864 0 0 (bytes 4 0)) ≡ Err (refusal.Value 4)
unfolding be bytes field when rule_of one decode cut_of
trun-other = refl

-- 8 bytes before the base. (negsuc k is -1 - k.)
trun-before : offset_of (run 1 2) ≡ Some (negsuc 7)
unfolding when signed
trun-before = refl

-- no offset is not the offset 0
trun-no-offset : offset_of silent ≡ None
unfolding when signed
trun-no-offset = refl

trun-first : entry_of (run 1 2) two 0 ≡ Ok (record { duration = 0; size = 500; flags = 0; composition_offset = pos 7 })
unfolding be bytes field when optional signed
trun-first = refl

-- the same bytes are -2 in version 1, and 4294967294 in version 0 (A49)
trun-second : entry_of (run 1 2) two 1 ≡ Ok (record { duration = 0; size = 600; flags = 0; composition_offset = negsuc 1 })
unfolding be bytes field when optional signed
trun-second = refl

trun-second-unsigned : entry_of (run 0 2) two 1 ≡ Ok (record { duration = 0; size = 600; flags = 0; composition_offset = pos 0xffff_fffe })
unfolding be bytes field when optional signed
trun-second-unsigned = refl

-- all four values
trun-whole : entry_of (record { version = 0; flags = 0xf00; sample_count = 1; data_offset = 0; first_sample_flags = 0 }) (bytes 4 1 ++ bytes 4 2 ++ bytes 4 3 ++ bytes 4 4) 0 ≡ Ok (record { duration = 1; size = 2; flags = 3; composition_offset = pos 4 })
unfolding be bytes field when optional signed
trun-whole = refl

-- none of them, and no bytes
trun-nothing : entry_of silent [] 5 ≡ Ok (record { duration = 0; size = 0; flags = 0; composition_offset = pos 0 })
unfolding be bytes field when optional signed
trun-nothing = refl

trun-no-third : entry_of (run 1 2) two 2 ≡ Err (refusal.Cut 16)
unfolding be bytes field when optional signed
trun-no-third = refl

-- a sample with a size, and without all of its offset
trun-half : entry_of (run 1 2) (two ++ bytes 4 700 ++ bytes 3 0) 2 ≡ Err (refusal.Cut 20)
unfolding be bytes field when optional signed
trun-half = refl

trun-written : trun_in (run 1 2) two (replicate 37 9) ≡ wrote (Ok 36) (box 0x7472756e 1 0xa01 (bytes 4 2 ++ bytes 4 0xffff_fff8 ++ two) ++ replicate 1 9)
unfolding bytes when rule_of lay encode
trun-written = refl

-- values of two samples for three
trun-too-few : trun_in (run 1 3) two (replicate 37 9) ≡ wrote (Err refusal.Unwritable) (replicate 37 9)
unfolding bytes when rule_of lay encode
trun-too-few = refl

-- a value whose flag is not set is not written: 13 where it is not 0
trun-unset : trun_in (record { version = 0; flags = 0; sample_count = 0; data_offset = 8; first_sample_flags = 0 }) [] (replicate 37 9) ≡ wrote (Err refusal.Unwritable) (replicate 37 9)
unfolding bytes when rule_of lay encode
trun-unset = refl

trun-no-room : trun_in (run 1 2) two (replicate 35 9) ≡ wrote (Err (refusal.TooSmall 36)) (replicate 35 9)
unfolding bytes when rule_of lay encode
trun-no-room = refl
