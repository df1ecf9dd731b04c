-- Worked examples of the definitions, computed. Assumes nothing.
use Rattle.std.specs.Prelude.{Ok, Err, Some, None}
use mathlib.Core.Path.{◌≡◌, refl}
use mathlib.Core.List.{List, [], ◌∷◌, ◌++◌}
use mathlib.Core.Bool.{true, false}
use Prim.Native.Nat.{ℕ}
use lib.ListN.{length, replicate}
use Rattle.numbers.specs.Number.{be, bytes}
use Rattle.numbers.specs.Field.{field, when}
use Rattle.numbers.specs.declared.Refusal.TheVariants as refusal
use Rattle.layout.specs.Rule.{rule_of}
use Rattle.put.specs.Put.{wrote}
use Rattle.layout.specs.Read.{one, decode}
use Rattle.layout.specs.Write.{lay, encode}
use Rattle.layout.specs.Canonical.{standard, exact, canonical_of}
use Rattle.rounds.proofs.Example.{box}
use Rattle.asc.specs.Config as audio
use Rattle.descriptor.specs.Descriptor.{length_from, head_by, groups, high}
use Rattle.descriptors.specs.Descriptors.{seek_from}
use Rattle.decoderconfig.specs.DecoderConfig.{config}
use Rattle.esfields.specs.EsFields.{stream}
use Rattle.esds.specs.Esds.{kind, fields, esds, esds_of, url_of, info_of, sl_of, esds_in}
use Rattle.esds.specs.declared.Esds.{Esds}
use Rattle.esds.specs.declared.Places.{Places}
use Rattle.esds.proofs.EsdsOwn.{needs}

abbrev places : ℕ → ℕ → ℕ → ℕ → ℕ → ℕ → Places
places u v i j s e = record { url = u; url_end = v; info = i; info_end = j; sl = s; sl_end = e }

abbrev numbers : List ℕ
numbers = 0x40 ∷ 0x15 ∷ 0 ∷ 0 ∷ 0 ∷ 0 ∷ 1 ∷ 0xf4 ∷ 0 ∷ 0 ∷ 1 ∷ 0xf4 ∷ 0 ∷ []

-- a box of the Rust crate, in 39 bytes: the SLConfig has a length of 0, and then a byte
abbrev theirs : List ℕ
theirs = box 0x65736473 0 0 (3 ∷ 25 ∷ 0 ∷ 1 ∷ 0 ∷ 4 ∷ 17 ∷ numbers ++ (5 ∷ 2 ∷ 0x11 ∷ 0x90 ∷ 6 ∷ 0 ∷ 0 ∷ []))

-- a usual box: lengths in four bytes
abbrev usual : List ℕ
usual =
    box 0x65736473 0 0
    (3 ∷ 0x80 ∷ 0x80 ∷ 0x80 ∷ 34 ∷ 0 ∷ 2 ∷ 0 ∷ 4 ∷ 0x80 ∷ 0x80 ∷ 0x80 ∷ 20 ∷ numbers ++ (5 ∷ 0x80 ∷ 0x80 ∷ 0x80 ∷ 2 ∷ 0x12 ∷ 0x10 ∷ 6 ∷ 0x80 ∷ 0x80 ∷ 0x80 ∷ 1 ∷ 2 ∷ []))

theirs-size : length theirs ≡ 39
unfolding be bytes field when rule_of one decode length_from head_by seek_from audio.bit_field audio.bits_of
theirs-size = refl

theirs-read : esds_of theirs ≡ Ok (esds 0 (stream 1 0 0 0) (Some (config 0x40 0x15 0 128000 128000 true)) true, places 17 17 34 36 38 38)
unfolding be bytes field when rule_of one decode length_from head_by seek_from audio.bit_field audio.bits_of
theirs-read = refl

theirs-info : info_of theirs ≡ 0x11 ∷ 0x90 ∷ []
unfolding be bytes field when rule_of one decode length_from head_by seek_from audio.bit_field audio.bits_of
theirs-info = refl

theirs-sl : sl_of theirs ≡ []
unfolding be bytes field when rule_of one decode length_from head_by seek_from audio.bit_field audio.bits_of
theirs-sl = refl

usual-read : esds_of (usual ++ (7 ∷ [])) ≡ Ok (esds 0 (stream 2 0 0 0) (Some (config 0x40 0x15 0 128000 128000 true)) true, places 20 20 43 45 50 51)
unfolding be bytes field when rule_of one decode length_from head_by seek_from audio.bit_field audio.bits_of
usual-read = refl

usual-info : info_of usual ≡ 0x12 ∷ 0x10 ∷ []
unfolding be bytes field when rule_of one decode length_from head_by seek_from audio.bit_field audio.bits_of
usual-info = refl

usual-sl : sl_of usual ≡ 2 ∷ []
unfolding be bytes field when rule_of one decode length_from head_by seek_from audio.bit_field audio.bits_of
usual-sl = refl

usual-url : url_of usual ≡ []
unfolding be bytes field when rule_of one decode length_from head_by seek_from audio.bit_field audio.bits_of
usual-url = refl

-- a URL, which is skipped; no DecoderConfig
located : esds_of (box 0x65736473 0 0 (3 ∷ 9 ∷ 0 ∷ 1 ∷ 0x40 ∷ 2 ∷ 0x61 ∷ 0x62 ∷ 6 ∷ 1 ∷ 2 ∷ [])) ≡ Ok (esds 0 (stream 1 0x40 0 0) None true, places 18 20 0 0 22 23)
unfolding be bytes field when rule_of one decode length_from head_by seek_from audio.bit_field audio.bits_of
located = refl

located-url : url_of (box 0x65736473 0 0 (3 ∷ 9 ∷ 0 ∷ 1 ∷ 0x40 ∷ 2 ∷ 0x61 ∷ 0x62 ∷ 6 ∷ 1 ∷ 2 ∷ [])) ≡ 0x61 ∷ 0x62 ∷ []
unfolding be bytes field when rule_of one decode length_from head_by seek_from audio.bit_field audio.bits_of
located-url = refl

-- fields alone
bare : esds_of (box 0x65736473 0 7 (3 ∷ 3 ∷ 0 ∷ 1 ∷ 0 ∷ [])) ≡ Ok (esds 7 (stream 1 0 0 0) None false, places 17 17 0 0 0 0)
unfolding be bytes field when rule_of one decode length_from head_by seek_from audio.bit_field audio.bits_of
bare = refl

-- a descriptor of another tag is skipped
unknown : esds_of (box 0x65736473 0 0 (3 ∷ 8 ∷ 0 ∷ 1 ∷ 0 ∷ 9 ∷ 0 ∷ 6 ∷ 1 ∷ 2 ∷ [])) ≡ Ok (esds 0 (stream 1 0 0 0) None true, places 17 17 0 0 21 22)
unfolding be bytes field when rule_of one decode length_from head_by seek_from audio.bit_field audio.bits_of
unknown = refl

-- what stands behind the stream's descriptor is skipped
behind : esds_of (box 0x65736473 0 0 (3 ∷ 3 ∷ 0 ∷ 1 ∷ 0 ∷ 4 ∷ [])) ≡ Ok (esds 0 (stream 1 0 0 0) None false, places 17 17 0 0 0 0)
unfolding be bytes field when rule_of one decode length_from head_by seek_from audio.bit_field audio.bits_of
behind = refl

-- REFUSALS
version-1 : esds_of (box 0x65736473 1 0 (3 ∷ 3 ∷ 0 ∷ 1 ∷ 0 ∷ [])) ≡ Err (refusal.Version 8)
unfolding be bytes field when rule_of one decode length_from head_by seek_from audio.bit_field audio.bits_of
version-1 = refl

other-type : esds_of (box 0x65736474 0 0 (3 ∷ 3 ∷ 0 ∷ 1 ∷ 0 ∷ [])) ≡ Err (refusal.Value 4)
unfolding be bytes field when rule_of one decode length_from head_by seek_from audio.bit_field audio.bits_of
other-type = refl

no_stream : esds_of (box 0x65736473 0 0 []) ≡ Err (refusal.Cut 12)
unfolding be bytes field when rule_of one decode length_from head_by seek_from audio.bit_field audio.bits_of
no_stream = refl

passes : esds_of (box 0x65736473 0 0 (3 ∷ 4 ∷ 0 ∷ 1 ∷ 0 ∷ [])) ≡ Err (refusal.Cut 12)
unfolding be bytes field when rule_of one decode length_from head_by seek_from audio.bit_field audio.bits_of
passes = refl

-- 1 wins over 8 at one position
passes-other : esds_of (box 0x65736473 0 0 (4 ∷ 4 ∷ 0 ∷ 1 ∷ 0 ∷ [])) ≡ Err (refusal.Cut 12)
unfolding be bytes field when rule_of one decode length_from head_by seek_from audio.bit_field audio.bits_of
passes-other = refl

other_tag : esds_of (box 0x65736473 0 0 (4 ∷ 3 ∷ 0 ∷ 1 ∷ 0 ∷ [])) ≡ Err (refusal.Value 12)
unfolding be bytes field when rule_of one decode length_from head_by seek_from audio.bit_field audio.bits_of
other_tag = refl

-- a faulty length stands behind the tag
other-tag-cut : esds_of (box 0x65736473 0 0 (4 ∷ [])) ≡ Err (refusal.Value 12)
unfolding be bytes field when rule_of one decode length_from head_by seek_from audio.bit_field audio.bits_of
other-tag-cut = refl

length_cut : esds_of (box 0x65736473 0 0 (3 ∷ [])) ≡ Err (refusal.Cut 13)
unfolding be bytes field when rule_of one decode length_from head_by seek_from audio.bit_field audio.bits_of
length_cut = refl

length-long : esds_of (box 0x65736473 0 0 (3 ∷ 0x80 ∷ 0x80 ∷ 0x80 ∷ 0x83 ∷ 0 ∷ 1 ∷ 0 ∷ [])) ≡ Err (refusal.Value 13)
unfolding be bytes field when rule_of one decode length_from head_by seek_from audio.bit_field audio.bits_of
length-long = refl

-- the flags stand behind the stream's descriptor
field_cut : esds_of (box 0x65736473 0 0 (3 ∷ 2 ∷ 0 ∷ 1 ∷ 0 ∷ [])) ≡ Err (refusal.Cut 16)
unfolding be bytes field when rule_of one decode length_from head_by seek_from audio.bit_field audio.bits_of
field_cut = refl

child-passes : esds_of (box 0x65736473 0 0 (3 ∷ 5 ∷ 0 ∷ 1 ∷ 0 ∷ 6 ∷ 1 ∷ 0 ∷ [])) ≡ Err (refusal.Cut 17)
unfolding be bytes field when rule_of one decode length_from head_by seek_from audio.bit_field audio.bits_of
child-passes = refl

-- a number of the DecoderConfig is cut by its own end
number_cut : esds_of (box 0x65736473 0 0 (3 ∷ 7 ∷ 0 ∷ 1 ∷ 0 ∷ 4 ∷ 2 ∷ 0x40 ∷ 0x15 ∷ 0 ∷ 0 ∷ 0 ∷ [])) ≡ Err (refusal.Cut 21)
unfolding be bytes field when rule_of one decode length_from head_by seek_from audio.bit_field audio.bits_of
number_cut = refl

-- a second DecoderConfig is skipped by its length; its head is tested
second-config : esds_of (box 0x65736473 0 0 (3 ∷ 20 ∷ 0 ∷ 1 ∷ 0 ∷ 4 ∷ 13 ∷ numbers ++ (4 ∷ 0 ∷ []))) ≡ esds_of (box 0x65736473 0 0 (3 ∷ 18 ∷ 0 ∷ 1 ∷ 0 ∷ 4 ∷ 13 ∷ numbers))
unfolding be bytes field when rule_of one decode length_from head_by seek_from audio.bit_field audio.bits_of
second-config = refl

second-cut : esds_of (box 0x65736473 0 0 (3 ∷ 20 ∷ 0 ∷ 1 ∷ 0 ∷ 4 ∷ 13 ∷ numbers ++ (4 ∷ 1 ∷ []))) ≡ Err (refusal.Cut 32)
unfolding be bytes field when rule_of one decode length_from head_by seek_from audio.bit_field audio.bits_of
second-cut = refl

-- WRITING

abbrev aac : Esds
aac = esds 0 (stream 1 0 0 0) (Some (config 0x40 0x15 0 128000 128000 true)) true

abbrev ours : List ℕ
ours = box 0x65736473 0 0 (3 ∷ 25 ∷ 0 ∷ 1 ∷ 0 ∷ 4 ∷ 17 ∷ numbers ++ (5 ∷ 2 ∷ 0x11 ∷ 0x90 ∷ 6 ∷ 1 ∷ 2 ∷ []))

-- the lengths in their shortest form; what lies behind the box stays
written : esds_in aac [] (0x11 ∷ 0x90 ∷ []) (2 ∷ []) (replicate 40 9) ≡ wrote (Ok 39) (ours ++ replicate 1 9)
unfolding bytes when rule_of lay encode groups high audio.bit_field audio.bits_of
written = refl

bare-written : esds_in (esds 7 (stream 1 0x40 0 0) None false) (0x61 ∷ []) [] [] (replicate 19 9) ≡ wrote (Ok 19) (box 0x65736473 0 7 (3 ∷ 5 ∷ 0 ∷ 1 ∷ 0x40 ∷ 1 ∷ 0x61 ∷ []))
unfolding bytes when rule_of lay encode groups high audio.bit_field audio.bits_of
bare-written = refl

no_room : esds_in aac [] (0x11 ∷ 0x90 ∷ []) (2 ∷ []) (replicate 38 9) ≡ wrote (Err (refusal.TooSmall 39)) (replicate 38 9)
unfolding bytes when rule_of lay encode groups high audio.bit_field audio.bits_of
no_room = refl

-- bytes of what is not there; flags of 25 bits; both come before the room
no-url : esds_in aac (0x61 ∷ []) (0x11 ∷ 0x90 ∷ []) (2 ∷ []) [] ≡ wrote (Err refusal.Unwritable) []
unfolding bytes when rule_of lay encode groups high audio.bit_field audio.bits_of
no-url = refl

no-config : esds_in (esds 0 (stream 1 0 0 0) None true) [] (0x11 ∷ []) (2 ∷ []) [] ≡ wrote (Err refusal.Unwritable) []
unfolding bytes when rule_of lay encode groups high audio.bit_field audio.bits_of
no-config = refl

no-sl : esds_in (esds 0 (stream 1 0 0 0) None false) [] [] (2 ∷ []) [] ≡ wrote (Err refusal.Unwritable) []
unfolding bytes when rule_of lay encode groups high audio.bit_field audio.bits_of
no-sl = refl

no-flags : esds_in (esds 0x100_0000 (stream 1 0 0 0) None false) [] [] [] [] ≡ wrote (Err refusal.Unwritable) []
unfolding bytes when rule_of lay encode groups high audio.bit_field audio.bits_of
no-flags = refl

-- CANONICAL: what we write is; the Rust crate's box, with a byte behind its SLConfig, and longer lengths are not

ours-canonical : canonical_of kind fields (needs aac 0 2 1) ours ≡ true
unfolding be bytes field when rule_of one decode standard exact
ours-canonical = refl

theirs-not : canonical_of kind fields (needs aac 0 2 0) theirs ≡ false
unfolding be bytes field when rule_of one decode standard exact
theirs-not = refl

usual-not : canonical_of kind fields (needs aac 0 2 1) usual ≡ false
unfolding be bytes field when rule_of one decode standard exact
usual-not = refl
