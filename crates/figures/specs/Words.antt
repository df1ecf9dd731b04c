-- What a track tells of itself in twelve words: by the tkhd, mdhd, hdlr and the first sample entry of its trak (ISO/IEC
-- 14496-12, 8.3.2, 8.4.2, 8.4.3, 8.5.2), and by how many samples it has and their bytes. Microseconds and whole frames to
-- a second are those of document 01 (Duration, Summary). Assumes nothing.
use Rattle.std.specs.Prelude.{ℕ, ◌/◌, ◌%◌, ◌^◌, List, [], ◌∷◌, length, leb, Result, Ok, Err}
use Rattle.std.proofs.lemmas.List.Edits.{sets}
use Rattle.numbers.specs.Field.{when}
use Rattle.numbers.specs.declared.Refusal.TheVariants as refusal
use Rattle.samples.specs.Records.{Output, output}
use Rattle.duration.specs.Duration.{micros_of}
use Rattle.summary.specs.Figures.{frames_of}
use Rattle.tkhd.specs.declared.Tkhd.{Tkhd}
use Rattle.mdhd.specs.declared.Mdhd.{Mdhd}
use Rattle.trak_boxes.specs.TrakBoxes.{tkhd_in, mdhd_in, hdlr_in, kind_in}
use Rattle.figures.specs.declared.Figures.{Figures}
use Rattle.numbers.specs.declared.Refusal.{Refusal}
use Rattle.hdlr.specs.declared.Hdlr.{Hdlr}

-- the bits of a language's three letters, without the pad bit before them (8.4.2.3)
abbrev pub letters : ℕ → ℕ
letters code = code % 2 ^ 15

-- the figures from what was read
abbrev pub figures_by : Tkhd → Mdhd → ℕ → ℕ → ℕ → ℕ → ℕ → Figures
figures_by h m handler entry micros samples bytes = record {
  number = h.track_id;
  handler = handler;
  entry = entry;
  timescale = m.timescale;
  duration = m.duration;
  micros = micros;
  samples = samples;
  bytes = bytes;
  frames = frames_of samples (micros / 1000);
  width = h.width;
  height = h.height;
  language = letters m.language;
}

-- each in its turn, or its refusal
abbrev pub by_micros : Tkhd → Mdhd → ℕ → ℕ → ℕ → ℕ → Result ℕ Refusal → Result Figures Refusal
by_micros h m handler entry samples bytes (Ok micros) = Ok (figures_by h m handler entry micros samples bytes)
by_micros h m handler entry samples bytes (Err q) = Err q

abbrev pub by_entry : Tkhd → Mdhd → ℕ → ℕ → ℕ → Result ℕ Refusal → Result Figures Refusal
by_entry h m handler samples bytes (Ok entry) = by_micros h m handler entry samples bytes (micros_of m.duration m.timescale)
by_entry h m handler samples bytes (Err q) = Err q

abbrev pub by_hdlr : List ℕ → Tkhd → Mdhd → ℕ → ℕ → Result Hdlr Refusal → Result Figures Refusal
by_hdlr t h m samples bytes (Ok d) = by_entry h m d.handler_type samples bytes (kind_in t)
by_hdlr t h m samples bytes (Err q) = Err q

abbrev pub by_mdhd : List ℕ → Tkhd → ℕ → ℕ → Result Mdhd Refusal → Result Figures Refusal
by_mdhd t h samples bytes (Ok m) = by_hdlr t h m samples bytes (hdlr_in t)
by_mdhd t h samples bytes (Err q) = Err q

abbrev pub by_tkhd : List ℕ → ℕ → ℕ → Result Tkhd Refusal → Result Figures Refusal
by_tkhd t samples bytes (Ok h) = by_mdhd t h samples bytes (mdhd_in t)
by_tkhd t samples bytes (Err q) = Err q

unfoldable pub told_of : List ℕ → ℕ → ℕ → Result Figures Refusal
told_of t samples bytes = by_tkhd t samples bytes (tkhd_in t)

-- the words, and how many they are
abbrev pub words_of : Figures → List ℕ
words_of x =
    x.number ∷ x.handler ∷ x.entry ∷ x.timescale ∷ x.duration ∷ x.micros
    ∷ x.samples ∷ x.bytes ∷ x.frames ∷ x.width ∷ x.height ∷ x.language ∷ []

abbrev pub word_count : ℕ
word_count = 12

-- the words at the start of the buffer, what lies past them as it was; TooSmall with their number where they have no room
abbrev pub put_of : Result Figures Refusal → List ℕ → Output
put_of (Ok x) o = when (leb word_count (length o)) (output (Ok word_count) (sets o 0 (words_of x))) (output (Err (refusal.TooSmall word_count)) o)
put_of (Err q) o = output (Err q) o

abbrev pub figures_of : List ℕ → ℕ → ℕ → List ℕ → Output
figures_of t samples bytes o = put_of (told_of t samples bytes) o
