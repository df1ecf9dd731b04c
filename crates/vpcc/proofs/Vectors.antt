-- Worked examples of the definitions, computed. Assumes nothing.
use Rattle.std.specs.Prelude.{Ok, Err}
use mathlib.Core.Path.{◌≡◌, refl}
use mathlib.Core.List.{List, [], ◌∷◌, ◌++◌}
use Prim.Native.Nat.{ℕ}
use lib.ListN.{replicate}
use Rattle.numbers.specs.Number.{be, bytes}
use Rattle.numbers.specs.Field.{field, when}
use Rattle.numbers.specs.declared.Refusal.TheVariants as refusal
use Rattle.put.specs.Put.{wrote}
use Rattle.layout.specs.Rule.{rule_of}
use Rattle.layout.specs.Read.{one, decode}
use Rattle.layout.specs.Write.{lay, encode}
use Rattle.layout.specs.Table.{cut_of}
use Rattle.rounds.proofs.Example.{box}
use Rattle.vpcc.specs.Vpcc as vpcc-is
use Rattle.vpcc.specs.declared.Vpcc.{Vpcc}

-- profile 2, level 3.1, 10 bits, 4:2:0, full range, colours 9, 16 and 8; n bytes to begin with
abbrev hdr : ℕ → Vpcc
hdr n = record {
  version = 1;
  flags = 0;
  profile = 2;
  level = 31;
  sampling = 0xa3;
  colour_primaries = 9;
  transfer_characteristics = 16;
  matrix_coefficients = 8;
  codec_initialization_data_size = n;
}

abbrev plain : List ℕ
plain = box 0x76706343 1 0 (bytes 8 0x021fa3_091008_0000)

abbrev with_two : List ℕ
with_two = box 0x76706343 1 0 (bytes 8 0x021fa3_091008_0002 ++ bytes 2 0x0506)

vpcc-read : vpcc-is.vpcc_of (plain ++ bytes 1 7) ≡ Ok (hdr 0, 20)
unfolding be bytes field when rule_of one decode cut_of
vpcc-read = refl

vpcc-no-initial : vpcc-is.initialization_of (plain ++ bytes 1 7) ≡ []
unfolding be bytes field when rule_of one decode cut_of
vpcc-no-initial = refl

vpcc-read-two : vpcc-is.vpcc_of (with_two ++ bytes 1 7) ≡ Ok (hdr 2, 20)
unfolding be bytes field when rule_of one decode cut_of
vpcc-read-two = refl

vpcc-initial : vpcc-is.initialization_of (with_two ++ bytes 1 7) ≡ 5 ∷ 6 ∷ []
unfolding be bytes field when rule_of one decode cut_of
vpcc-initial = refl

-- the first byte that is not there is told, though the lent bytes go on
vpcc-initial-cut : vpcc-is.vpcc_of (box 0x76706343 1 0 (bytes 8 0x021fa3_091008_0003 ++ bytes 2 0x0506) ++ bytes 1 7) ≡ Err (refusal.Cut 22)
unfolding be bytes field when rule_of one decode cut_of
vpcc-initial-cut = refl

vpcc-initial-cut-none : vpcc-is.initialization_of (box 0x76706343 1 0 (bytes 8 0x021fa3_091008_0003 ++ bytes 2 0x0506) ++ bytes 1 7) ≡ []
unfolding be bytes field when rule_of one decode cut_of
vpcc-initial-cut-none = refl

-- version 1 alone
vpcc-version-0 : vpcc-is.vpcc_of (box 0x76706343 0 0 (bytes 8 0x021fa3_091008_0000)) ≡ Err (refusal.Version 8)
unfolding be bytes field when rule_of one decode cut_of
vpcc-version-0 = refl

vpcc-version-2 : vpcc-is.vpcc_of (box 0x76706343 2 0 (bytes 8 0x021fa3_091008_0000)) ≡ Err (refusal.Version 8)
unfolding be bytes field when rule_of one decode cut_of
vpcc-version-2 = refl

vpcc-cut : vpcc-is.vpcc_of (box 0x76706343 1 0 (bytes 7 0x021fa3_091008_00)) ≡ Err (refusal.Cut 18)
unfolding be bytes field when rule_of one decode cut_of
vpcc-cut = refl

vpcc-other : vpcc-is.vpcc_of (box 0x76706344 1 0 (bytes 8 0)) ≡ Err (refusal.Value 4)
unfolding be bytes field when rule_of one decode cut_of
vpcc-other = refl

vpcc-written : vpcc-is.vpcc_in (hdr 2) (5 ∷ 6 ∷ []) (replicate 23 9) ≡ wrote (Ok 22) (with_two ++ replicate 1 9)
unfolding bytes when rule_of lay encode
vpcc-written = refl

vpcc-too-small : vpcc-is.vpcc_in (hdr 2) (5 ∷ 6 ∷ []) (replicate 21 9) ≡ wrote (Err (refusal.TooSmall 22)) (replicate 21 9)
unfolding bytes when rule_of lay encode
vpcc-too-small = refl

-- as many bytes as the size says
vpcc-fewer : vpcc-is.vpcc_in (hdr 2) (5 ∷ []) (replicate 23 9) ≡ wrote (Err refusal.Unwritable) (replicate 23 9)
unfolding bytes when rule_of lay encode
vpcc-fewer = refl
