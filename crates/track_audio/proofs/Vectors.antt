-- Worked examples of the definitions, computed. Assumes nothing.
use Rattle.std.specs.Prelude.{Ok, Err}
use mathlib.Core.Path.{◌≡◌, refl}
use mathlib.Core.List.{List, [], ◌∷◌, ◌++◌}
use Prim.Native.Nat.{ℕ, ◌+◌, ◌*◌}
use Rattle.numbers.specs.Number.{be, bytes}
use Rattle.numbers.specs.Field.{field, when}
use Rattle.numbers.specs.declared.Refusal.TheVariants as refusal
use Rattle.places.specs.Kinds as kinds
use Rattle.layout.specs.Rule.{rule_of}
use Rattle.layout.specs.Read.{one, decode}
use Rattle.asc.specs.Config.{bit_field, bits_of}
use Rattle.descriptor.specs.Descriptor.{length_from, head_by}
use Rattle.descriptors.specs.Descriptors.{seek_from}
use Rattle.rounds.proofs.Example.{box}
use Rattle.children.specs.Children.{row_of, first_in, nth_in}
use Rattle.children.proofs.Example.{of}
use Rattle.trak.specs.Trak.{within}
use Rattle.trak.proofs.Example as example
use Rattle.trak_boxes.specs.TrakBoxes.{stsd_in}
use Rattle.track_audio.specs.TrackAudio.{part_of, entered_of, stream_of, config_of, profile_of, frequency_of, channels_of, bitrate_of}
use Rattle.track_audio.proofs.Example.{mp4a, esds, aac}

-- a trak with this sample entry, and with this configuration
abbrev trak : List ℕ → List ℕ
trak entry = example.trak 0x736f756e entry example.common

abbrev sound : List ℕ → List ℕ
sound info = trak (mp4a (aac info))

-- AAC LC, 48,000 samples a second, two channels
profile-lc : profile_of (sound (0x11 ∷ 0x90 ∷ [])) ≡ Ok 2
unfolding be bytes field when rule_of one decode row_of first_in nth_in within stsd_in part_of entered_of stream_of config_of length_from head_by seek_from bit_field bits_of
profile-lc = refl

frequency-48000 : frequency_of (sound (0x11 ∷ 0x90 ∷ [])) ≡ Ok 48000
unfolding be bytes field when rule_of one decode row_of first_in nth_in within stsd_in part_of entered_of stream_of config_of length_from head_by seek_from bit_field bits_of
frequency-48000 = refl

channels-2 : channels_of (sound (0x11 ∷ 0x90 ∷ [])) ≡ Ok 2
unfolding be bytes field when rule_of one decode row_of first_in nth_in within stsd_in part_of entered_of stream_of config_of length_from head_by seek_from bit_field bits_of
channels-2 = refl

bitrate-128000 : bitrate_of (sound (0x11 ∷ 0x90 ∷ [])) ≡ Ok 128000
unfolding be bytes field when rule_of one decode row_of first_in nth_in within stsd_in part_of entered_of stream_of config_of length_from head_by seek_from bit_field bits_of
bitrate-128000 = refl

-- a type of 0, an index of 13, a configuration of 0
profile-0 : profile_of (sound (0x01 ∷ 0x90 ∷ [])) ≡ Err (refusal.Value 0)
unfolding be bytes field when rule_of one decode row_of first_in nth_in within stsd_in part_of entered_of stream_of config_of length_from head_by seek_from bit_field bits_of
profile-0 = refl

frequency-13 : frequency_of (sound (0x16 ∷ 0x90 ∷ [])) ≡ Err (refusal.Value 0)
unfolding be bytes field when rule_of one decode row_of first_in nth_in within stsd_in part_of entered_of stream_of config_of length_from head_by seek_from bit_field bits_of
frequency-13 = refl

channels-0 : channels_of (sound (0x11 ∷ 0x80 ∷ [])) ≡ Err (refusal.Value 0)
unfolding be bytes field when rule_of one decode row_of first_in nth_in within stsd_in part_of entered_of stream_of config_of length_from head_by seek_from bit_field bits_of
channels-0 = refl

-- an index of 15: the frequency itself is told
frequency-told : frequency_of (sound (bytes 5 ((47 * 0x100_0000 + 12345) * 128 + 16))) ≡ Ok 12345
unfolding be bytes field when rule_of one decode row_of first_in nth_in within stsd_in part_of entered_of stream_of config_of length_from head_by seek_from bit_field bits_of
frequency-told = refl

-- no configuration; and half of one, which the reader of the esds refuses
profile-without-info : profile_of (trak (mp4a (esds []))) ≡ Err (refusal.Cut 0)
unfolding be bytes field when rule_of one decode row_of first_in nth_in within stsd_in part_of entered_of stream_of config_of length_from head_by seek_from bit_field bits_of
profile-without-info = refl

frequency-cut : frequency_of (sound (0x11 ∷ [])) ≡ Err (refusal.Cut 35)
unfolding be bytes field when rule_of one decode row_of first_in nth_in within stsd_in part_of entered_of stream_of config_of length_from head_by seek_from bit_field bits_of
frequency-cut = refl

-- the average is not told
bitrate-not-told : bitrate_of (trak (mp4a (esds []))) ≡ Ok 0
unfolding be bytes field when rule_of one decode row_of first_in nth_in within stsd_in part_of entered_of stream_of config_of length_from head_by seek_from bit_field bits_of
bitrate-not-told = refl

-- what is missing: the esds, the mp4a where the entry is an avc1 or there is none, the stsd
channels-without-esds : channels_of (trak (mp4a [])) ≡ Err (refusal.Missing 0x65736473)
unfolding be bytes field when rule_of one decode row_of first_in nth_in within stsd_in part_of entered_of stream_of config_of length_from head_by seek_from bit_field bits_of
channels-without-esds = refl

profile-of-video : profile_of (trak (of kinds.avc1 [])) ≡ Err (refusal.Missing 0x6d703461)
unfolding be bytes field when rule_of one decode row_of first_in nth_in within stsd_in part_of entered_of stream_of config_of length_from head_by seek_from bit_field bits_of
profile-of-video = refl

bitrate-without-entry : bitrate_of (trak []) ≡ Err (refusal.Missing 0x6d703461)
unfolding be bytes field when rule_of one decode row_of first_in nth_in within stsd_in part_of entered_of stream_of config_of length_from head_by seek_from bit_field bits_of
bitrate-without-entry = refl

frequency-without-stsd : frequency_of (of kinds.trak (of kinds.mdia (of kinds.minf (of kinds.stbl [])))) ≡ Err (refusal.Missing 0x73747364)
unfolding be bytes field when rule_of one decode row_of first_in nth_in within stsd_in part_of entered_of stream_of config_of length_from head_by seek_from bit_field bits_of
frequency-without-stsd = refl

-- what the readers of mp4a and of esds refuse
profile-cut : profile_of (trak (of kinds.mp4a (bytes 8 1))) ≡ Err (refusal.Cut 16)
unfolding be bytes field when rule_of one decode row_of first_in nth_in within stsd_in part_of entered_of stream_of config_of length_from head_by seek_from bit_field bits_of
profile-cut = refl

bitrate-version : bitrate_of (trak (mp4a (box kinds.esds 1 0 []))) ≡ Err (refusal.Version 8)
unfolding be bytes field when rule_of one decode row_of first_in nth_in within stsd_in part_of entered_of stream_of config_of length_from head_by seek_from bit_field bits_of
bitrate-version = refl
