-- The kind of coded media by the type of the sample entry (ISO/IEC 14496-15 for 'avc1' and 'hev1', 14496-14 for 'mp4a',
-- the VP codec mapping for 'vp09', 3GPP TS 26.245 for 'tx3g'). Another type is 8 (A63). Assumes nothing.
use Rattle.std.specs.Prelude.{ℕ, eqb, Result, Ok, Err}
use Rattle.numbers.specs.Field.{when}
use Rattle.numbers.specs.declared.Refusal.TheVariants as refusal
use Rattle.media.specs.declared.entries.Media.{Media}
use Rattle.media.specs.declared.entries.Media.TheVariants.{H264, H265, VP9, AAC, TTXT}
use Rattle.numbers.specs.declared.Refusal.{Refusal}

-- the number of the four letters
abbrev pub entry_of : Media → ℕ
entry_of H264 = 0x61766331
entry_of H265 = 0x68657631
entry_of VP9 = 0x76703039
entry_of AAC = 0x6d703461
entry_of TTXT = 0x74783367

abbrev pub media_of : ℕ → Result Media Refusal
media_of n =
    when (eqb n (entry_of H264)) (Ok H264)
    (when (eqb n (entry_of H265)) (Ok H265)
    (when (eqb n (entry_of VP9)) (Ok VP9)
    (when (eqb n (entry_of AAC)) (Ok AAC)
    (when (eqb n (entry_of TTXT)) (Ok TTXT)
    (Err (refusal.Value 0))))))
