-- How large a track is, by the boxes of its trak: the bytes of the samples that its stsz counts (ISO/IEC 14496-12, 8.7.3),
-- its bits to a second, and its summary (document 01). The bits to a second are, as the Rust has it, the average that the
-- esds of an mp4a tells, 0 where it has none; and for other tracks eight times the bytes over the whole seconds of the
-- mdhd (8.4.2), 0 where these are 0. Overflow where that product passes 64 bits, or the quotient 32.
-- Assumes nothing.
use Rattle.std.specs.Prelude.{ℕ, zero, suc, ◌+◌, ◌*◌, ◌/◌, List, eqb, ltb, Result, Ok, Err}
use Rattle.numbers.specs.Field.{when, or_zero}
use Rattle.numbers.specs.declared.Refusal.TheVariants as refusal
use Rattle.places.specs.Kinds as kinds
use Rattle.summary.specs.Figures.{summed_of}
use Rattle.trak.specs.Trak.{stsz_of}
use Rattle.trak_boxes.specs.TrakBoxes.{tkhd_in, mdhd_in, stsz_in, kind_in}
use Rattle.track_audio.specs.TrackAudio as audio
use Rattle.summary.specs.declared.Summary.{Summary}
use Rattle.numbers.specs.declared.Refusal.{Refusal}
use Rattle.tkhd.specs.declared.Tkhd.{Tkhd}
use Rattle.mdhd.specs.declared.Mdhd.{Mdhd}
use Rattle.stsz.specs.declared.Stsz.{Stsz}

-- BYTES

-- the first n sizes of the list at `place`, together
unfoldable pub total_of : ℕ → List ℕ → ℕ → ℕ
total_of zero part place = 0
total_of (suc n) part place = total_of n part place + or_zero 4 part (place + n * 4)

-- a size in common as often as the samples are counted, or the sizes that are listed
abbrev pub together : List ℕ → ℕ → ℕ → ℕ → ℕ
together part place common count = when (eqb common 0) (total_of count part place) (common * count)

abbrev pub sized : List ℕ → Result (Stsz × ℕ) Refusal → Result ℕ Refusal
sized part (Ok (m, place)) = Ok (together part place m.sample_size m.count)
sized part (Err q) = Err q

unfoldable pub bytes_of : List ℕ → Result ℕ Refusal
bytes_of t = sized (stsz_of t) (stsz_in t)

-- BITS TO A SECOND

-- whole seconds
abbrev pub seconds_of : ℕ → ℕ → ℕ
seconds_of duration timescale = when (eqb timescale 0) 0 (duration / timescale)

abbrev pub rate_of : ℕ → ℕ → Result ℕ Refusal
rate_of bytes seconds =
    when (eqb seconds 0) (Ok 0)
    (when (ltb 0xffff_ffff_ffff_ffff (bytes * 8)) (Err refusal.Overflow)
    (when (ltb 0xffff_ffff (bytes * 8 / seconds)) (Err refusal.Overflow) (Ok (bytes * 8 / seconds))))

-- by the sizes and the duration
abbrev pub over : ℕ → ℕ → Result ℕ Refusal → Result ℕ Refusal
over duration timescale (Ok n) = rate_of n (seconds_of duration timescale)
over duration timescale (Err q) = Err q

abbrev pub timed : Result ℕ Refusal → Result Mdhd Refusal → Result ℕ Refusal
timed bytes (Ok m) = over m.duration m.timescale bytes
timed bytes (Err q) = Err q

unfoldable pub measured_of : List ℕ → Result ℕ Refusal
measured_of t = timed (bytes_of t) (mdhd_in t)

-- what an audio track tells: a box that is missing says that it has no esds
abbrev pub told_of : Result ℕ Refusal → Result ℕ Refusal
told_of (Ok n) = Ok n
told_of (Err (refusal.Missing k)) = Ok 0
told_of (Err q) = Err q

abbrev pub typed : List ℕ → Result ℕ Refusal → Result ℕ Refusal
typed t (Ok letters) = when (eqb letters kinds.mp4a) (told_of (audio.bitrate_of t)) (measured_of t)
typed t (Err q) = Err q

abbrev pub bitrate_of : List ℕ → Result ℕ Refusal
bitrate_of t = typed t (kind_in t)

-- SUMMARY

abbrev pub counted : ℕ → ℕ → ℕ → ℕ → Result (Stsz × ℕ) Refusal → Result Summary Refusal
counted width height duration timescale (Ok (m, place)) = summed_of m.count duration timescale width height
counted width height duration timescale (Err q) = Err q

abbrev pub lasting : Result (Stsz × ℕ) Refusal → ℕ → ℕ → Result Mdhd Refusal → Result Summary Refusal
lasting sizes width height (Ok m) = counted width height m.duration m.timescale sizes
lasting sizes width height (Err q) = Err q

abbrev pub shown : Result (Stsz × ℕ) Refusal → Result Mdhd Refusal → Result Tkhd Refusal → Result Summary Refusal
shown sizes media (Ok m) = lasting sizes m.width m.height media
shown sizes media (Err q) = Err q

abbrev pub summary_of : List ℕ → Result Summary Refusal
summary_of t = shown (stsz_in t) (mdhd_in t) (tkhd_in t)
