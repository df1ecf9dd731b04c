-- Worked examples of the definitions, computed. Assumes nothing.
use Rattle.std.specs.Prelude.{Ok, Err}
use mathlib.Core.Path.{◌≡◌, refl}
use mathlib.Core.List.{List, [], ◌∷◌, ◌++◌}
use mathlib.Core.Bool.{false}
use Prim.Native.Nat.{ℕ, ◌*◌}
use lib.ListN.{replicate}
use Rattle.numbers.specs.Number.{be, bytes}
use Rattle.numbers.specs.Field.{field, when}
use Rattle.numbers.specs.declared.Refusal.TheVariants as refusal
use Rattle.put.specs.Put.{wrote}
use Rattle.layout.specs.Rule.{rule_of}
use Rattle.layout.specs.Read.{one, decode}
use Rattle.layout.specs.Write.{lay, encode, full}
use Rattle.rounds.proofs.Example.{box}
use Rattle.asc.specs.Config as audio
use Rattle.descriptor.specs.Descriptor.{groups, high}
use Rattle.children.specs.Children.{row_of, first_in}
use Rattle.vpformat.specs.Sampling.{sampling_of}
use Rattle.visual.specs.Visual.{visual_in}
use Rattle.avcc.specs.Avcc.{avcc}
use Rattle.vpcc.specs.Vpcc.{vpcc_in}
use Rattle.tx3g.specs.Tx3g.{tx3g_in}
use Rattle.mp4a.specs.Mp4a.{mp4a_in, esds_of}
use Rattle.mp4a.specs.declared.Mp4a.{Mp4a}
use Rattle.esds.specs.Esds.{esds_in}
use Rattle.fresh.specs.Fresh.{fresh_visual, fresh_avcc, fresh_vpcc, fresh_tx3g, rate_of, fresh_mp4a, fresh_esds}

-- a new avc1 of 320 by 240, in its 86 bytes
visual-written : visual_in 0x61766331 (fresh_visual 320 240) [] (replicate 86 9)
    ≡ wrote (Ok 86) (full 0x61766331 (bytes 6 0 ++ bytes 2 1 ++ bytes 8 0 ++ bytes 8 0 ++ bytes 4 0x0140_00f0 ++ bytes 8 0x0048_0000_0048_0000 ++ bytes 4 0 ++ bytes 2 1 ++ replicate 32 0 ++ bytes 2 24 ++ bytes 2 0xffff) [])
unfolding bytes when rule_of lay encode
visual-written = refl

-- the record of an avcC from its sequence parameter set, and both sides of the limit
avcc-longer : fresh_avcc (0x67 ∷ 0x64 ∷ 0x00 ∷ 0x0D ∷ 0xAC ∷ 0xD9 ∷ []) ≡ Ok (avcc 100 0 13 3 1 1)
unfolding when
avcc-longer = refl

avcc-shortest : fresh_avcc (0x67 ∷ 66 ∷ 0xc0 ∷ 30 ∷ []) ≡ Ok (avcc 66 0xc0 30 3 1 1)
unfolding when
avcc-shortest = refl

avcc-short : fresh_avcc (0x67 ∷ 66 ∷ 0xc0 ∷ []) ≡ Err refusal.Unwritable
unfolding when
avcc-short = refl

-- a new track's vpcC, in 20 bytes
vpcc-written : vpcc_in fresh_vpcc [] (replicate 20 9) ≡ wrote (Ok 20) (box 0x76706343 1 0 (bytes 8 0x001f80_020202_0000))
unfolding bytes when rule_of lay encode
vpcc-written = refl

vpcc-byte : sampling_of 8 0 false ≡ Ok fresh_vpcc.sampling
unfolding when
vpcc-byte = refl

-- a new tx3g, in its 46 bytes
tx3g-written : tx3g_in fresh_tx3g [] (replicate 46 9)
    ≡ wrote (Ok 46) (full 0x74783367 (bytes 6 0 ++ bytes 2 1 ++ bytes 4 0 ++ bytes 2 0x1ff ++ bytes 4 255 ++ bytes 8 0 ++ bytes 8 0x0000_0000_0001_0010 ++ bytes 4 0xffff_ffff) [])
unfolding bytes when rule_of lay encode
tx3g-written = refl

-- both sides of the rate's limit, and the two frequencies of AAC that are past it
rate-usual : rate_of 48000 ≡ Ok 0xbb800000
unfolding when
rate-usual = refl

rate-most : rate_of 65535 ≡ Ok 0xffff0000
unfolding when
rate-most = refl

rate-past : rate_of 65536 ≡ Err refusal.Unwritable
unfolding when
rate-past = refl

rate-88200 : rate_of 88200 ≡ Err refusal.Unwritable
unfolding when
rate-88200 = refl

rate-96000 : rate_of 96000 ≡ Err refusal.Unwritable
unfolding when
rate-96000 = refl

-- a new mp4a, and one whose frequency has no 16 bits
abbrev stereo : Mp4a
stereo = record { data_reference_index = 1; channelcount = 2; samplesize = 16; samplerate = 48000 * 65536 }

mp4a-stereo : fresh_mp4a 2 48000 ≡ Ok stereo
unfolding when
mp4a-stereo = refl

mp4a-96000 : fresh_mp4a 2 96000 ≡ Err refusal.Unwritable
unfolding when
mp4a-96000 = refl

-- a stream of 128,000 bits a second, with the bytes that `asc` writes of AAC LC, 48,000 samples a second and two channels
esds-config : audio.config_in (record { object_type = 2; frequency_index = 3; frequency = 0; channels = 2 }) (replicate 2 9) ≡ wrote (Ok 2) (0x11 ∷ 0x90 ∷ [])
unfolding bytes when audio.bit_field audio.bits_of
esds-config = refl

-- its box, in 39 bytes
abbrev aac : List ℕ
aac =
    bytes 8 0x27_6573_6473 ++ bytes 4 0
    ++ (3 ∷ 25 ∷ 0 ∷ 0 ∷ 0 ∷ 4 ∷ 17 ∷ 0x40 ∷ 0x15 ∷ 0 ∷ 0 ∷ 0 ∷ 0 ∷ 1 ∷ 0xf4 ∷ 0 ∷ 0 ∷ 1 ∷ 0xf4 ∷ 0 ∷ 5 ∷ 2 ∷ 0x11 ∷ 0x90 ∷ 6 ∷ 1 ∷ 2 ∷ [])

esds-written : esds_in (fresh_esds 128000) [] (0x11 ∷ 0x90 ∷ []) (2 ∷ []) (replicate 39 9) ≡ wrote (Ok 39) aac
unfolding bytes when rule_of lay encode groups high audio.bit_field audio.bits_of
esds-written = refl

-- the mp4a with it, in 75 bytes
abbrev whole : List ℕ
whole = full 0x6d703461 (bytes 6 0 ++ bytes 2 1 ++ bytes 8 0 ++ bytes 2 2 ++ bytes 2 16 ++ bytes 4 0 ++ bytes 4 (48000 * 65536)) aac

mp4a-written : mp4a_in stereo aac (replicate 75 9) ≡ wrote (Ok 75) whole
unfolding bytes when rule_of lay encode
mp4a-written = refl

mp4a-read : esds_of whole ≡ aac
unfolding be bytes field when rule_of one decode row_of first_in
mp4a-read = refl
