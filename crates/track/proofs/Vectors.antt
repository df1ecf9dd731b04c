-- Worked examples of the definitions, computed. Assumes nothing.
use Rattle.std.specs.Prelude.{Ok, Err}
use mathlib.Core.Path.{◌≡◌, refl}
use mathlib.Core.List.{List, [], ◌++◌}
use Prim.Native.Nat.{ℕ}
use Rattle.numbers.specs.Number.{be, bytes}
use Rattle.numbers.specs.Field.{field, when}
use Rattle.numbers.specs.declared.Refusal.TheVariants as refusal
use Rattle.media.specs.declared.handlers.Kind.TheVariants.{Video}
use Rattle.media.specs.declared.entries.Media.TheVariants.{H264, AAC}
use Rattle.places.specs.Kinds as kinds
use Rattle.layout.specs.Rule.{rule_of}
use Rattle.layout.specs.Read.{one, decode}
use Rattle.layout.specs.Table.{cut_of}
use Rattle.rounds.proofs.Example.{box}
use Rattle.children.specs.Children.{row_of, first_in, nth_in}
use Rattle.children.proofs.Example.{of}
use Rattle.trak.specs.Trak.{within}
use Rattle.trak.proofs.Example as example
use Rattle.trak_boxes.specs.TrakBoxes.{tkhd_in, mdhd_in, hdlr_in, stsz_in, stsd_in}
use Rattle.track.specs.Track.{number_of, timescale_of, language_of, kind_of, media_of, samples_of}

-- video, with an avc1 and an mp4a that are not looked into
abbrev small : List ℕ
small = example.trak 0x76696465 (bytes 8 0x8_6176_6331 ++ bytes 8 0x8_6d70_3461) example.listed

number-7 : number_of small ≡ Ok 7
unfolding be bytes field when rule_of one decode row_of first_in within tkhd_in
number-7 = refl

number-missing : number_of (of kinds.trak (of kinds.mdia [])) ≡ Err (refusal.Missing 0x746b6864)
unfolding be bytes field when rule_of one decode row_of first_in within tkhd_in
number-missing = refl

-- the tkhd ends behind its version and flags
number_cut : number_of (of kinds.trak (box kinds.tkhd 0 0 [])) ≡ Err (refusal.Cut 12)
unfolding be bytes field when rule_of one decode row_of first_in within tkhd_in
number_cut = refl

timescale-1000 : timescale_of small ≡ Ok 1000
unfolding be bytes field when rule_of one decode row_of first_in within mdhd_in
timescale-1000 = refl

timescale-missing : timescale_of (of kinds.trak example.tkhd) ≡ Err (refusal.Missing 0x6d646961)
unfolding be bytes field when rule_of one decode row_of first_in within mdhd_in
timescale-missing = refl

-- a timescale of 0
timescale-0 : timescale_of (of kinds.trak (of kinds.mdia (box kinds.mdhd 0 0 (bytes 8 0 ++ bytes 8 0 ++ bytes 4 0)))) ≡ Err (refusal.Value 20)
unfolding be bytes field when rule_of one decode row_of first_in within mdhd_in
timescale-0 = refl

-- und
language-und : language_of small ≡ Ok (record { first = 0x75; second = 0x6e; third = 0x64 })
unfolding be bytes field when rule_of one decode row_of first_in within mdhd_in
language-und = refl

language-missing : language_of (of kinds.trak (of kinds.mdia [])) ≡ Err (refusal.Missing 0x6d646864)
unfolding be bytes field when rule_of one decode row_of first_in within mdhd_in
language-missing = refl

kind-video : kind_of small ≡ Ok Video
unfolding be bytes field when rule_of one decode row_of first_in within hdlr_in
kind-video = refl

-- hint
kind-unknown : kind_of (example.trak 0x68696e74 [] example.listed) ≡ Err (refusal.Value 0)
unfolding be bytes field when rule_of one decode row_of first_in within hdlr_in
kind-unknown = refl

kind-missing : kind_of (of kinds.trak (of kinds.mdia example.mdhd)) ≡ Err (refusal.Missing 0x68646c72)
unfolding be bytes field when rule_of one decode row_of first_in within hdlr_in
kind-missing = refl

-- the first entry decides
media-first : media_of small ≡ Ok H264
unfolding be bytes field when rule_of one decode row_of first_in nth_in within stsd_in
media-first = refl

media-audio : media_of (example.trak 0x736f756e (bytes 8 0x8_6d70_3461) example.common) ≡ Ok AAC
unfolding be bytes field when rule_of one decode row_of first_in nth_in within stsd_in
media-audio = refl

-- av01, and no entry at all
media-unknown : media_of (example.trak 0x76696465 (bytes 8 0x8_6176_3031) example.listed) ≡ Err (refusal.Value 0)
unfolding be bytes field when rule_of one decode row_of first_in nth_in within stsd_in
media-unknown = refl

media-none : media_of (example.trak 0x76696465 [] example.listed) ≡ Err (refusal.Value 0)
unfolding be bytes field when rule_of one decode row_of first_in nth_in within stsd_in
media-none = refl

media-missing : media_of (of kinds.trak (of kinds.mdia (of kinds.minf (of kinds.stbl example.listed)))) ≡ Err (refusal.Missing 0x73747364)
unfolding be bytes field when rule_of one decode row_of first_in nth_in within stsd_in
media-missing = refl

-- sizes that are listed, and one in common
samples-listed : samples_of small ≡ Ok 2
unfolding be bytes field when rule_of one decode row_of first_in within stsz_in cut_of
samples-listed = refl

samples-common : samples_of (example.trak 0x76696465 [] example.common) ≡ Ok 3
unfolding be bytes field when rule_of one decode row_of first_in within stsz_in cut_of
samples-common = refl

-- the second size is cut
samples-cut : samples_of (example.trak 0x76696465 [] (box kinds.stsz 0 0 (bytes 8 2 ++ bytes 7 0))) ≡ Err (refusal.Cut 24)
unfolding be bytes field when rule_of one decode row_of first_in within stsz_in cut_of
samples-cut = refl

samples-missing : samples_of (of kinds.trak (of kinds.mdia (of kinds.minf []))) ≡ Err (refusal.Missing 0x7374626c)
unfolding be bytes field when rule_of one decode row_of first_in within stsz_in cut_of
samples-missing = refl
