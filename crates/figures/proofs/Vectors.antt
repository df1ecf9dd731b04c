-- Worked examples of the definitions, computed. Assumes nothing.
use Rattle.std.specs.Prelude.{Ok, Err}
use Prim.Native.Nat.{ℕ}
use mathlib.Core.Path.{◌≡◌, refl}
use mathlib.Core.List.{List, [], ◌∷◌, ◌++◌}
use lib.ListN.{replicate}
use Rattle.numbers.specs.Number.{be, bytes}
use Rattle.numbers.specs.Field.{field, when}
use Rattle.numbers.specs.declared.Refusal.TheVariants as refusal
use Rattle.places.specs.Kinds as kinds
use Rattle.layout.specs.Rule.{rule_of}
use Rattle.layout.specs.Read.{one, decode}
use Rattle.rounds.proofs.Example.{box}
use Rattle.children.specs.Children.{row_of, first_in, nth_in}
use Rattle.children.proofs.Example.{of}
use Rattle.samples.specs.Records.{output}
use Rattle.trak.specs.Trak.{within}
use Rattle.trak.proofs.Example as example
use Rattle.trak_boxes.specs.TrakBoxes.{tkhd_in, mdhd_in, hdlr_in, stsd_in}
use Rattle.figures.specs.Words.{told_of, figures_of}

-- a trak with a tkhd and an mdia of these boxes
abbrev with : List ℕ → List ℕ
with inner = of kinds.trak (example.tkhd ++ of kinds.mdia inner)

-- an mdhd of that duration and timescale, with every bit of the language set
abbrev lasting : ℕ → ℕ → List ℕ
lasting duration timescale = box kinds.mdhd 1 0 (replicate 16 0 ++ bytes 4 timescale ++ bytes 8 duration ++ bytes 4 0xffff_0000)

abbrev typed : List ℕ → List ℕ
typed entry = of kinds.minf (of kinds.stbl (example.stsd entry))

-- track 7, video, avc1; 3,000 of 1,000 to a second; 90 samples of 4,500 bytes, 30 to a second; 320 by 240; und. What lies
-- past the twelve words stays.
video : figures_of (example.trak 0x76696465 (bytes 8 0x8_6176_6331) []) 90 4500 (replicate 13 9)
    ≡ output (Ok 12)
    (7 ∷ 0x76696465 ∷ 0x61766331 ∷ 1000 ∷ 3000 ∷ 3_000_000 ∷ 90 ∷ 4500 ∷ 30 ∷ 0x0140_0000 ∷ 0x00f0_0000 ∷ 0x55c4 ∷ 9 ∷ [])
unfolding be bytes field when rule_of one decode row_of first_in nth_in within tkhd_in mdhd_in hdlr_in stsd_in told_of
video = refl

-- no room for twelve
no_room : figures_of (example.trak 0x76696465 (bytes 8 0x8_6176_6331) []) 90 4500 (replicate 11 9) ≡ output (Err (refusal.TooSmall 12)) (replicate 11 9)
unfolding be bytes field when rule_of one decode row_of first_in nth_in within tkhd_in mdhd_in hdlr_in stsd_in told_of
no_room = refl

-- 60,060 milliseconds of 1,800 samples (case 4); no entry in the stsd; the pad bit before the language is passed over
case-4 : figures_of (with (lasting 60060 1000 ++ example.hdlr 0x736f756e ++ typed [])) 1800 0 (replicate 12 9)
    ≡ output (Ok 12) (7 ∷ 0x736f756e ∷ 0 ∷ 1000 ∷ 60060 ∷ 60_060_000 ∷ 1800 ∷ 0 ∷ 29 ∷ 0x0140_0000 ∷ 0x00f0_0000 ∷ 0x7fff ∷ [])
unfolding be bytes field when rule_of one decode row_of first_in nth_in within tkhd_in mdhd_in hdlr_in stsd_in told_of
case-4 = refl

-- no whole millisecond, no frames
no-time : figures_of (with (lasting 999 1_000_000 ++ example.hdlr 0x736f756e ++ typed [])) 1800 0 (replicate 12 9)
    ≡ output (Ok 12) (7 ∷ 0x736f756e ∷ 0 ∷ 1_000_000 ∷ 999 ∷ 999 ∷ 1800 ∷ 0 ∷ 0 ∷ 0x0140_0000 ∷ 0x00f0_0000 ∷ 0x7fff ∷ [])
unfolding be bytes field when rule_of one decode row_of first_in nth_in within tkhd_in mdhd_in hdlr_in stsd_in told_of
no-time = refl

-- a duration whose microseconds do not fit is Overflow, before TooSmall (case 5)
case-5 : figures_of (with (lasting 18_446_744_073_710 1 ++ example.hdlr 0x736f756e ++ typed [])) 0 0 [] ≡ output (Err refusal.Overflow) []
unfolding be bytes field when rule_of one decode row_of first_in nth_in within tkhd_in mdhd_in hdlr_in stsd_in told_of
case-5 = refl

-- what is refused, in its order: the tkhd, the mdhd, the hdlr, the stsd
without-tkhd : figures_of (of kinds.trak (of kinds.mdia [])) 0 0 [] ≡ output (Err (refusal.Missing 0x746b6864)) []
unfolding be bytes field when rule_of one decode row_of first_in nth_in within tkhd_in mdhd_in hdlr_in stsd_in told_of
without-tkhd = refl

without-mdhd : figures_of (with []) 0 0 [] ≡ output (Err (refusal.Missing 0x6d646864)) []
unfolding be bytes field when rule_of one decode row_of first_in nth_in within tkhd_in mdhd_in hdlr_in stsd_in told_of
without-mdhd = refl

timescale-0 : figures_of (with (lasting 1 0)) 0 0 [] ≡ output (Err (refusal.Value 28)) []
unfolding be bytes field when rule_of one decode row_of first_in nth_in within tkhd_in mdhd_in hdlr_in stsd_in told_of
timescale-0 = refl

without-hdlr : figures_of (with (lasting 1 1)) 0 0 [] ≡ output (Err (refusal.Missing 0x68646c72)) []
unfolding be bytes field when rule_of one decode row_of first_in nth_in within tkhd_in mdhd_in hdlr_in stsd_in told_of
without-hdlr = refl

without-stsd : figures_of (with (lasting 1 1 ++ example.hdlr 0x736f756e)) 0 0 [] ≡ output (Err (refusal.Missing 0x6d696e66)) []
unfolding be bytes field when rule_of one decode row_of first_in nth_in within tkhd_in mdhd_in hdlr_in stsd_in told_of
without-stsd = refl
