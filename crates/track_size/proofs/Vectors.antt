-- Worked examples of the definitions, computed. Assumes nothing.
use Rattle.std.specs.Prelude.{Ok, Err}
use mathlib.Core.Path.{◌≡◌, refl}
use mathlib.Core.List.{List, [], ◌∷◌, ◌++◌}
use Prim.Native.Nat.{ℕ}
use Rattle.numbers.specs.Number.{be, bytes}
use Rattle.numbers.specs.Field.{field, when}
use Rattle.numbers.specs.declared.Refusal.TheVariants as refusal
use Rattle.summary.specs.Figures.{summed_of}
use Rattle.places.specs.Kinds as kinds
use Rattle.layout.specs.Rule.{rule_of}
use Rattle.layout.specs.Read.{one, decode}
use Rattle.layout.specs.Table.{cut_of}
use Rattle.asc.specs.Config.{bit_field, bits_of}
use Rattle.descriptor.specs.Descriptor.{length_from, head_by}
use Rattle.descriptors.specs.Descriptors.{seek_from}
use Rattle.rounds.proofs.Example.{box}
use Rattle.children.specs.Children.{row_of, first_in, nth_in}
use Rattle.children.proofs.Example.{of}
use Rattle.trak.specs.Trak.{within}
use Rattle.trak.proofs.Example as example
use Rattle.trak_boxes.specs.TrakBoxes.{tkhd_in, mdhd_in, stsz_in, stsd_in}
use Rattle.track_audio.specs.TrackAudio.{part_of, entered_of, stream_of}
use Rattle.track_audio.proofs.Example.{mp4a, aac}
use Rattle.track_size.specs.TrackSize.{total_of, bytes_of, rate_of, measured_of, bitrate_of, summary_of}

-- video with an avc1 that is not looked into; and audio
abbrev video : List ℕ → List ℕ
video sizes = example.trak 0x76696465 (of kinds.avc1 []) sizes

abbrev audio : List ℕ → List ℕ
audio boxes = example.trak 0x736f756e (mp4a boxes) example.common

-- the boxes of an stbl, in a trak whose header is the given one
abbrev held : List ℕ → List ℕ → List ℕ
held head tables = of kinds.trak (head ++ of kinds.mdia (of kinds.minf (of kinds.stbl tables)))

-- 10 and 20, and three times 5
bytes-listed : bytes_of (video example.listed) ≡ Ok 30
unfolding be bytes field when rule_of one decode row_of first_in within stsz_in cut_of bytes_of total_of
bytes-listed = refl

bytes-common : bytes_of (video example.common) ≡ Ok 15
unfolding be bytes field when rule_of one decode row_of first_in within stsz_in cut_of bytes_of total_of
bytes-common = refl

-- two sizes of 32 bits have a sum, and as many of one a product, that 32 bits do not hold
bytes-long : bytes_of (video (box kinds.stsz 0 0 (bytes 8 2 ++ bytes 8 0xffff_ffff_ffff_ffff))) ≡ Ok 0x1_ffff_fffe
unfolding be bytes field when rule_of one decode row_of first_in within stsz_in cut_of bytes_of total_of
bytes-long = refl

bytes-many : bytes_of (video (box kinds.stsz 0 0 (bytes 8 0xffff_ffff_ffff_ffff))) ≡ Ok 0xffff_fffe_0000_0001
unfolding be bytes field when rule_of one decode row_of first_in within stsz_in cut_of bytes_of total_of
bytes-many = refl

bytes-none : bytes_of (video (box kinds.stsz 0 0 (bytes 8 0))) ≡ Ok 0
unfolding be bytes field when rule_of one decode row_of first_in within stsz_in cut_of bytes_of total_of
bytes-none = refl

bytes_cut : bytes_of (video (box kinds.stsz 0 0 (bytes 8 1))) ≡ Err (refusal.Cut 20)
unfolding be bytes field when rule_of one decode row_of first_in within stsz_in cut_of bytes_of total_of
bytes_cut = refl

bytes-missing : bytes_of (held [] []) ≡ Err (refusal.Missing 0x7374737a)
unfolding be bytes field when rule_of one decode row_of first_in within stsz_in cut_of bytes_of total_of
bytes-missing = refl

-- 30 bytes in 3 seconds; what an esds tells, and none
bitrate-video : bitrate_of (video example.listed) ≡ Ok 80
unfolding be bytes field when rule_of one decode row_of first_in within nth_in stsd_in mdhd_in stsz_in cut_of bytes_of total_of measured_of
bitrate-video = refl

bitrate-audio : bitrate_of (audio (aac (0x11 ∷ 0x90 ∷ []))) ≡ Ok 128000
unfolding be bytes field when rule_of one decode row_of first_in within nth_in stsd_in mdhd_in stsz_in cut_of bytes_of total_of measured_of part_of entered_of stream_of length_from head_by seek_from bit_field bits_of
bitrate-audio = refl

bitrate-without-esds : bitrate_of (audio []) ≡ Ok 0
unfolding be bytes field when rule_of one decode row_of first_in within nth_in stsd_in mdhd_in stsz_in cut_of bytes_of total_of measured_of part_of entered_of stream_of length_from head_by seek_from bit_field bits_of
bitrate-without-esds = refl

-- what is refused: of the stsd, the esds, the mdhd, the stsz
bitrate-without-stsd : bitrate_of (held [] example.listed) ≡ Err (refusal.Missing 0x73747364)
unfolding be bytes field when rule_of one decode row_of first_in within nth_in stsd_in mdhd_in stsz_in cut_of bytes_of total_of measured_of
bitrate-without-stsd = refl

bitrate-esds-version : bitrate_of (audio (box kinds.esds 1 0 [])) ≡ Err (refusal.Version 8)
unfolding be bytes field when rule_of one decode row_of first_in within nth_in stsd_in mdhd_in stsz_in cut_of bytes_of total_of measured_of part_of entered_of stream_of length_from head_by seek_from bit_field bits_of
bitrate-esds-version = refl

bitrate-without-mdhd : bitrate_of (held [] (example.stsd (of kinds.avc1 []) ++ example.listed)) ≡ Err (refusal.Missing 0x6d646864)
unfolding be bytes field when rule_of one decode row_of first_in within nth_in stsd_in mdhd_in stsz_in cut_of bytes_of total_of measured_of
bitrate-without-mdhd = refl

bitrate-without-stsz : bitrate_of (video []) ≡ Err (refusal.Missing 0x7374737a)
unfolding be bytes field when rule_of one decode row_of first_in within nth_in stsd_in mdhd_in stsz_in cut_of bytes_of total_of measured_of
bitrate-without-stsz = refl

-- no whole second; the largest that 32 bits hold, and one more; a product that 64 bits do not hold
rate-0 : rate_of 5 0 ≡ Ok 0
unfolding when
rate-0 = refl

rate-largest : rate_of 0x1fff_ffff 1 ≡ Ok 0xffff_fff8
unfolding when
rate-largest = refl

rate-past : rate_of 0x2000_0000 1 ≡ Err refusal.Overflow
unfolding when
rate-past = refl

rate-wide : rate_of 0x1fff_ffff_ffff_ffff 0x1_0000_0000 ≡ Ok 0xffff_ffff
unfolding when
rate-wide = refl

rate-product : rate_of 0x2000_0000_0000_0000 0x1000_0000_0000 ≡ Err refusal.Overflow
unfolding when
rate-product = refl

-- the count of stsz, the duration and the timescale of mdhd, the width and the height of tkhd
summary-video : summary_of (video example.listed) ≡ summed_of 2 3000 1000 0x0140_0000 0x00f0_0000
unfolding be bytes field when rule_of one decode row_of first_in within tkhd_in mdhd_in stsz_in cut_of
summary-video = refl

summary-without-tkhd : summary_of (held [] []) ≡ Err (refusal.Missing 0x746b6864)
unfolding be bytes field when rule_of one decode row_of first_in within tkhd_in mdhd_in stsz_in cut_of
summary-without-tkhd = refl

summary-without-mdhd : summary_of (held example.tkhd []) ≡ Err (refusal.Missing 0x6d646864)
unfolding be bytes field when rule_of one decode row_of first_in within tkhd_in mdhd_in stsz_in cut_of
summary-without-mdhd = refl

summary-without-stsz : summary_of (video []) ≡ Err (refusal.Missing 0x7374737a)
unfolding be bytes field when rule_of one decode row_of first_in within tkhd_in mdhd_in stsz_in cut_of
summary-without-stsz = refl
