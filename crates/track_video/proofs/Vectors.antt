-- Worked examples of the definitions, computed. Assumes nothing.
use Rattle.std.specs.Prelude.{Ok, Err}
use mathlib.Core.Path.{◌≡◌, refl}
use mathlib.Core.List.{List, [], ◌∷◌, ◌++◌}
use Prim.Native.Nat.{ℕ}
use lib.ListN.{replicate}
use Rattle.numbers.specs.Number.{be, bytes}
use Rattle.numbers.specs.Field.{field, when}
use Rattle.numbers.specs.declared.Refusal.TheVariants as refusal
use Rattle.profiles.specs.declared.Profile.TheVariants.{ConstrainedBaseline, High}
use Rattle.places.specs.Kinds as kinds
use Rattle.layout.specs.Rule.{rule_of}
use Rattle.layout.specs.Read.{one, decode}
use Rattle.sets.specs.Sets.{end_of}
use Rattle.children.specs.Children.{row_of, first_in, nth_in}
use Rattle.children.proofs.Example.{of}
use Rattle.trak.specs.Trak.{within}
use Rattle.trak.proofs.Example as example
use Rattle.trak_boxes.specs.TrakBoxes.{stsd_in}
use Rattle.track_video.specs.TrackVideo.{part_of, entered_of, config_of, profile_of, sps_of, pps_of, sps_fault, pps_fault}

-- a trak with this sample entry; and with an avc1 of these boxes, whose fields are not looked at
abbrev trak : List ℕ → List ℕ
trak entry = example.trak 0x76696465 entry example.listed

abbrev video : List ℕ → List ℕ
video boxes = trak (of kinds.avc1 (replicate 78 0 ++ boxes))

-- a profile and its compatibility, two sequence parameter sets, the first of no bytes, and one picture parameter set
abbrev avcc : ℕ → ℕ → List ℕ
avcc profile compatibility = of kinds.avcc (1 ∷ profile ∷ compatibility ∷ 13 ∷ 0xff ∷ 0xe2 ∷ 0 ∷ 0 ∷ 0 ∷ 2 ∷ 0x67 ∷ 0x64 ∷ 1 ∷ 0 ∷ 1 ∷ 0x68 ∷ [])

profile-high : profile_of (video (avcc 100 0)) ≡ Ok High
unfolding be bytes field when rule_of one decode row_of first_in nth_in within stsd_in part_of entered_of config_of end_of
profile-high = refl

profile-constrained : profile_of (video (avcc 66 0x40)) ≡ Ok ConstrainedBaseline
unfolding be bytes field when rule_of one decode row_of first_in nth_in within stsd_in part_of entered_of config_of end_of
profile-constrained = refl

profile-unknown : profile_of (video (avcc 99 0)) ≡ Err (refusal.Value 0)
unfolding be bytes field when rule_of one decode row_of first_in nth_in within stsd_in part_of entered_of config_of end_of
profile-unknown = refl

-- each set, and what is told of one that is not there
sps-second : sps_of 1 (video (avcc 100 0)) ≡ 0x67 ∷ 0x64 ∷ []
unfolding be bytes field when rule_of one decode row_of first_in nth_in within stsd_in part_of entered_of config_of end_of
sps-second = refl

sps-there : sps_fault 1 (video (avcc 100 0)) ≡ (Ok tt)
unfolding be bytes field when rule_of one decode row_of first_in nth_in within stsd_in part_of entered_of config_of end_of
sps-there = refl

sps-past : sps_of 2 (video (avcc 100 0)) ≡ []
unfolding be bytes field when rule_of one decode row_of first_in nth_in within stsd_in part_of entered_of config_of end_of
sps-past = refl

sps-past-told : sps_fault 2 (video (avcc 100 0)) ≡ Err (refusal.NoSample 2)
unfolding be bytes field when rule_of one decode row_of first_in nth_in within stsd_in part_of entered_of config_of end_of
sps-past-told = refl

pps-first : pps_of 0 (video (avcc 100 0)) ≡ 0x68 ∷ []
unfolding be bytes field when rule_of one decode row_of first_in nth_in within stsd_in part_of entered_of config_of end_of
pps-first = refl

pps-there : pps_fault 0 (video (avcc 100 0)) ≡ (Ok tt)
unfolding be bytes field when rule_of one decode row_of first_in nth_in within stsd_in part_of entered_of config_of end_of
pps-there = refl

pps-past-told : pps_fault 1 (video (avcc 100 0)) ≡ Err (refusal.NoSample 1)
unfolding be bytes field when rule_of one decode row_of first_in nth_in within stsd_in part_of entered_of config_of end_of
pps-past-told = refl

-- a set of no bytes is there
sps-empty : sps_of 0 (video (avcc 100 0)) ≡ []
unfolding be bytes field when rule_of one decode row_of first_in nth_in within stsd_in part_of entered_of config_of end_of
sps-empty = refl

sps-empty-there : sps_fault 0 (video (avcc 100 0)) ≡ (Ok tt)
unfolding be bytes field when rule_of one decode row_of first_in nth_in within stsd_in part_of entered_of config_of end_of
sps-empty-there = refl

-- what is missing: the avcC, the avc1, the stsd
profile-without-avcc : profile_of (video []) ≡ Err (refusal.Missing 0x61766343)
unfolding be bytes field when rule_of one decode row_of first_in nth_in within stsd_in part_of entered_of config_of end_of
profile-without-avcc = refl

sps-of-audio : sps_fault 0 (trak (of kinds.mp4a [])) ≡ Err (refusal.Missing 0x61766331)
unfolding be bytes field when rule_of one decode row_of first_in nth_in within stsd_in part_of entered_of config_of end_of
sps-of-audio = refl

pps-without-stsd : pps_fault 0 (of kinds.trak (of kinds.mdia (of kinds.minf (of kinds.stbl [])))) ≡ Err (refusal.Missing 0x73747364)
unfolding be bytes field when rule_of one decode row_of first_in nth_in within stsd_in part_of entered_of config_of end_of
pps-without-stsd = refl

pps-none : pps_of 0 (of kinds.trak []) ≡ []
unfolding be bytes field when rule_of one decode row_of first_in nth_in within stsd_in part_of entered_of config_of end_of
pps-none = refl

-- what the readers of avc1 and of avcC refuse
profile-cut : profile_of (trak (of kinds.avc1 (bytes 8 1))) ≡ Err (refusal.Cut 16)
unfolding be bytes field when rule_of one decode row_of first_in nth_in within stsd_in part_of entered_of config_of end_of
profile-cut = refl

sps-version : sps_fault 0 (video (of kinds.avcc (2 ∷ []))) ≡ Err (refusal.Value 8)
unfolding be bytes field when rule_of one decode row_of first_in nth_in within stsd_in part_of entered_of config_of end_of
sps-version = refl
