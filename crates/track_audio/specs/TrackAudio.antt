-- What an audio track tells of itself: its first sample entry is an mp4a (ISO/IEC 14496-14, 5.6), whose esds holds a
-- DecoderConfig with the average bit rate (14496-1, 7.2.6.6) and an AudioSpecificConfig with the type, the frequency and the
-- channels (14496-3, 1.6.2.1). An average of 0 tells none (7.2.6.6), and so does an esds without a DecoderConfig.
-- Assumes nothing.
use Rattle.std.specs.Prelude.{ℕ, List, eqb, Result, Option, Ok, Err, Some, None}
use Rattle.numbers.specs.Field.{when}
use Rattle.numbers.specs.declared.Refusal.TheVariants as refusal
use Rattle.audio.specs.Objects.{object_type}
use Rattle.audio.specs.Frequencies as audio
use Rattle.audio.specs.Channels.{configuration}
use Rattle.places.specs.Kinds as kinds
use Rattle.asc.specs.Config as asc
use Rattle.mp4a.specs.Mp4a as mp4a
use Rattle.esds.specs.Esds as esds
use Rattle.trak.specs.Trak.{entry_of}
use Rattle.trak_boxes.specs.TrakBoxes.{needed, kind_in}
use Rattle.numbers.specs.declared.Refusal.{Refusal}
use Rattle.esds.specs.declared.Esds.{Esds}
use Rattle.esds.specs.declared.Places.{Places}
use Rattle.decoderconfig.specs.declared.Config.{Config}
use Rattle.asc.specs.declared.Config as asc-is
use Rattle.mp4a.specs.declared.Mp4a.{Mp4a}

-- the esds in the first sample entry
unfoldable pub part_of : List ℕ → List ℕ
part_of t = mp4a.esds_of (entry_of t)

-- what is told of it: by an mp4a that is read, and by the type of the entry
abbrev pub entered : List ℕ → Result Mp4a Refusal → Result (Esds × Places) Refusal
entered part (Ok m) = needed Err kinds.esds part (esds.esds_of part)
entered part (Err q) = Err q

unfoldable pub entered_of : List ℕ → Result (Esds × Places) Refusal
entered_of t = entered (part_of t) (mp4a.mp4a_of (entry_of t))

abbrev pub typed : List ℕ → Result ℕ Refusal → Result (Esds × Places) Refusal
typed t (Ok letters) = when (eqb letters kinds.mp4a) (entered_of t) (Err (refusal.Missing kinds.mp4a))
typed t (Err q) = Err q

unfoldable pub stream_of : List ℕ → Result (Esds × Places) Refusal
stream_of t = typed t (kind_in t)

-- the configuration in an esds that is read
abbrev pub configured : List ℕ → Result (Esds × Places) Refusal → Result asc-is.Config Refusal
configured part (Ok (m, p)) = asc.config_of (esds.info_of part)
configured part (Err q) = Err q

unfoldable pub config_of : List ℕ → Result asc-is.Config Refusal
config_of t = configured (part_of t) (stream_of t)

abbrev pub profiled : Result asc-is.Config Refusal → Result ℕ Refusal
profiled (Ok m) = object_type m.object_type
profiled (Err q) = Err q

abbrev pub profile_of : List ℕ → Result ℕ Refusal
profile_of t = profiled (config_of t)

-- an index of 15 says that the frequency itself follows it (14496-3, table 1.18)
abbrev pub rate_of : ℕ → ℕ → Result ℕ Refusal
rate_of index told = when (eqb index 15) (Ok told) (audio.frequency_of index)

abbrev pub sampled : Result asc-is.Config Refusal → Result ℕ Refusal
sampled (Ok m) = rate_of m.frequency_index m.frequency
sampled (Err q) = Err q

abbrev pub frequency_of : List ℕ → Result ℕ Refusal
frequency_of t = sampled (config_of t)

abbrev pub heard : Result asc-is.Config Refusal → Result ℕ Refusal
heard (Ok m) = configuration m.channels
heard (Err q) = Err q

abbrev pub channels_of : List ℕ → Result ℕ Refusal
channels_of t = heard (config_of t)

-- the average bit rate
abbrev pub average_of : Option Config → ℕ
average_of None = 0
average_of (Some c) = c.avg_bitrate

abbrev pub rated : Result (Esds × Places) Refusal → Result ℕ Refusal
rated (Ok (m, p)) = Ok (average_of m.decoder)
rated (Err q) = Err q

abbrev pub bitrate_of : List ℕ → Result ℕ Refusal
bitrate_of t = rated (stream_of t)
