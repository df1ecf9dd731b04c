-- The records of new sample entries and of the boxes that they hold: what the standards give where a writer has nothing
-- else to say (D56). Assumes nothing.
use Rattle.std.specs.Prelude.{ℕ, ◌+◌, ◌*◌, ◌^◌, List, [], ◌∷◌, true, length, get_or, ltb, Result, Ok, Err, Some}
use Rattle.numbers.specs.Field.{when}
use Rattle.numbers.specs.declared.Refusal.TheVariants as refusal
use Rattle.decoderconfig.specs.DecoderConfig as config
use Rattle.esfields.specs.EsFields as es
use Rattle.visual.specs.declared.Visual.{Visual}
use Rattle.avcc.specs.Avcc.{avcc}
use Rattle.vpcc.specs.Vpcc as vpcc
use Rattle.vpcc.specs.declared.Vpcc.{Vpcc}
use Rattle.tx3g.specs.Tx3g as tx3g
use Rattle.tx3g.specs.declared.Tx3g.{Tx3g}
use Rattle.esds.specs.Esds.{esds}
use Rattle.esds.specs.declared.Esds.{Esds}
use Rattle.mp4a.specs.declared.Mp4a.{Mp4a}
use Rattle.numbers.specs.declared.Refusal.{Refusal}
use Rattle.avcc.specs.declared.Avcc.{Avcc}

-- a new visual entry: the first data reference, no name, and the template values of ISO/IEC 14496-12, 12.1.3: 72 dots an
-- inch, one frame in a sample, 24 bits of colour
abbrev pub fresh_visual : ℕ → ℕ → Visual
fresh_visual w h = record { data_reference_index = 1; width = w; height = h; horizresolution = 72 * 2 ^ 16; vertresolution = 72 * 2 ^ 16; frame_count = 1; name0 = 0; name1 = 0; name2 = 0; name3 = 0; depth = 24 }

-- a new avcC of one set of each kind, with lengths of four bytes: profile, compatibility and level are the bytes behind the
-- first of the sequence parameter set (ISO/IEC 14496-10, 7.3.2.1.1); Unwritable where it ends
-- before
abbrev pub fresh_avcc : List ℕ → Result Avcc Refusal
fresh_avcc s = when (ltb (length s) 4) (Err refusal.Unwritable) (Ok (avcc (get_or s 1 0) (get_or s 2 0) (get_or s 3 0) 3 1 1))

-- a new VP9 track's vpcC: profile 0, level 3.1, 8 bits of 4:2:0 in the narrow range, nothing known of its colours (23001-8:
-- 2), no initialization data
abbrev pub fresh_vpcc : Vpcc
fresh_vpcc = vpcc.from (1 ∷ 0 ∷ 0 ∷ 31 ∷ 8 * 16 ∷ 2 ∷ 2 ∷ 2 ∷ 0 ∷ [])

-- a new text entry (3GPP TS 26.245, 5.16): the first data reference, centred at the bottom (1 and -1), no box of its own,
-- white on black in 16 points of the font 1
abbrev pub fresh_tx3g : Tx3g
fresh_tx3g = tx3g.from (1 ∷ 0 ∷ 1 ∷ 255 ∷ 0 ∷ 0 ∷ 0 ∷ 255 ∷ 0 ∷ 0 ∷ 0 ∷ 0 ∷ 0 ∷ 0 ∷ 1 ∷ 0 ∷ 16 ∷ 255 ∷ 255 ∷ 255 ∷ 255 ∷ [])

-- a whole frequency as a number with 16 bits before the point and 16 behind it; Unwritable where it has more than
-- 16 bits
abbrev pub rate_of : ℕ → Result ℕ Refusal
rate_of f = when (ltb f (2 ^ 16)) (Ok (f * 2 ^ 16)) (Err refusal.Unwritable)

-- a new sound entry: the first data reference, samples of 16 bits (the template value of ISO/IEC 14496-12, 12.2.3), and the
-- rate, where there is one
abbrev pub with_rate : ℕ → Result ℕ Refusal → Result Mp4a Refusal
with_rate c (Ok r) = Ok (record { data_reference_index = 1; channelcount = c; samplesize = 16; samplerate = r })
with_rate c (Err q) = Err q

abbrev pub fresh_mp4a : ℕ → ℕ → Result Mp4a Refusal
fresh_mp4a c f = with_rate c (rate_of f)

-- a new AAC stream, its number 0 as it is in a file (14496-14, 3.1.2): MPEG-4 audio (object type 0x40 of 14496-1, 7.2.6.6),
-- a stream type of 5 in the high 6 bits of its byte, not upwards, the reserved bit 1; with an info and an SLConfig
abbrev pub fresh_esds : ℕ → Esds
fresh_esds bitrate = esds 0 (es.stream 0 0 0 0) (Some (config.config 0x40 (5 * 4 + 1) 0 bitrate bitrate true)) true
