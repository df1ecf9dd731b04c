-- Worked examples of the definitions, computed. Assumes nothing.
use Rattle.std.specs.Prelude.{Ok, Err}
use mathlib.Core.Path.{◌≡◌, refl}
use mathlib.Core.List.{List, [], ◌++◌}
use Prim.Native.Nat.{ℕ}
use Rattle.numbers.specs.Number.{be, bytes}
use Rattle.numbers.specs.Field.{field, when}
use Rattle.numbers.specs.declared.Refusal.TheVariants as refusal
use Rattle.places.specs.Kinds as kinds
use Rattle.layout.specs.Rule.{rule_of}
use Rattle.layout.specs.Read.{one, decode}
use Rattle.layout.specs.Table.{cut_of}
use Rattle.rounds.proofs.Example.{box}
use Rattle.children.specs.Children.{row_of, first_in, nth_in}
use Rattle.children.proofs.Example.{of}
use Rattle.tkhd.specs.Tkhd.{tkhd_of}
use Rattle.trak.specs.Trak.{within}
use Rattle.trak.proofs.Example as example
use Rattle.trak_boxes.specs.TrakBoxes.{tkhd_in, mdhd_in, hdlr_in, stsz_in, stsd_in, kind_in}

-- a trak with an entry that is not looked into
abbrev small : List ℕ
small = example.trak 0x7362746c (bytes 8 0x8_7478_3367) example.listed

tkhd-there : tkhd_in small ≡ tkhd_of example.tkhd
unfolding be bytes field when rule_of one decode row_of first_in within tkhd_in
tkhd-there = refl

mdhd-there : mdhd_in small ≡ Ok (record { version = 0; flags = 0; creation_time = 0; modification_time = 0; timescale = 1000; duration = 3000; language = 0x55c4 })
unfolding be bytes field when rule_of one decode row_of first_in within mdhd_in
mdhd-there = refl

hdlr-there : hdlr_in small ≡ Ok (record { version = 0; flags = 0; handler_type = 0x7362746c })
unfolding be bytes field when rule_of one decode row_of first_in within hdlr_in
hdlr-there = refl

stsz-there : stsz_in small ≡ Ok (record { version = 0; flags = 0; sample_size = 0; count = 2 }, 20)
unfolding be bytes field when rule_of one decode row_of first_in within stsz_in cut_of
stsz-there = refl

stsd-there : stsd_in small ≡ Ok (record { version = 0; flags = 0; count = 1 })
unfolding be bytes field when rule_of one decode row_of first_in within stsd_in
stsd-there = refl

-- each of a trak without it, and of one without its parent
tkhd-missing : tkhd_in (of kinds.trak []) ≡ Err (refusal.Missing 0x746b6864)
unfolding be bytes field when rule_of one decode row_of first_in within tkhd_in
tkhd-missing = refl

mdhd-missing : mdhd_in (of kinds.trak (of kinds.mdia [])) ≡ Err (refusal.Missing 0x6d646864)
unfolding be bytes field when rule_of one decode row_of first_in within mdhd_in
mdhd-missing = refl

mdhd-without-mdia : mdhd_in (of kinds.trak []) ≡ Err (refusal.Missing 0x6d646961)
unfolding be bytes field when rule_of one decode row_of first_in within mdhd_in
mdhd-without-mdia = refl

hdlr-missing : hdlr_in (of kinds.trak (of kinds.mdia example.mdhd)) ≡ Err (refusal.Missing 0x68646c72)
unfolding be bytes field when rule_of one decode row_of first_in within hdlr_in
hdlr-missing = refl

stsz-missing : stsz_in (of kinds.trak (of kinds.mdia (of kinds.minf (of kinds.stbl (example.stsd []))))) ≡ Err (refusal.Missing 0x7374737a)
unfolding be bytes field when rule_of one decode row_of first_in within stsz_in cut_of
stsz-missing = refl

stsd-without-minf : stsd_in (of kinds.trak (of kinds.mdia [])) ≡ Err (refusal.Missing 0x6d696e66)
unfolding be bytes field when rule_of one decode row_of first_in within stsd_in
stsd-without-minf = refl

-- what the box's own reader refuses, at a position that is counted from the box's first byte
mdhd-no-timescale : mdhd_in (of kinds.trak (example.tkhd ++ of kinds.mdia (box kinds.mdhd 0 0 (bytes 8 0 ++ bytes 8 0 ++ bytes 4 0)))) ≡ Err (refusal.Value 20)
unfolding be bytes field when rule_of one decode row_of first_in within mdhd_in
mdhd-no-timescale = refl

stsd-version : stsd_in (of kinds.trak (of kinds.mdia (of kinds.minf (of kinds.stbl (box kinds.stsd 1 0 (bytes 4 0)))))) ≡ Err (refusal.Version 8)
unfolding be bytes field when rule_of one decode row_of first_in within stsd_in
stsd-version = refl

-- no trak at all
tkhd-of-nothing : tkhd_in [] ≡ Err (refusal.Missing 0x746b6864)
unfolding be bytes field when rule_of one decode row_of first_in within tkhd_in
tkhd-of-nothing = refl

-- the first sample entry's type, of an stsd with one and with none, and of none
kind-there : kind_in small ≡ Ok 0x74783367
unfolding be bytes field when rule_of one decode row_of first_in nth_in within stsd_in
kind-there = refl

kind-of-none : kind_in (of kinds.trak (of kinds.mdia (of kinds.minf (of kinds.stbl (box kinds.stsd 0 0 (bytes 4 0)))))) ≡ Ok 0
unfolding be bytes field when rule_of one decode row_of first_in nth_in within stsd_in
kind-of-none = refl

kind-missing : kind_in (of kinds.trak (of kinds.mdia (of kinds.minf (of kinds.stbl [])))) ≡ Err (refusal.Missing 0x73747364)
unfolding be bytes field when rule_of one decode row_of first_in nth_in within stsd_in
kind-missing = refl
