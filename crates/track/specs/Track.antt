-- What a track tells of itself, by the boxes of its trak: the number in tkhd (ISO/IEC 14496-12, 8.3.2), timescale and
-- language in mdhd (8.4.2), the handler in hdlr (8.4.3), the type of the first sample entry in stsd (8.5.2), and how many
-- samples stsz counts (8.7.3). What is refused of the box is refused here. Assumes nothing.
use Rattle.std.specs.Prelude.{ℕ, List, Result, Ok, Err}
use Rattle.language.specs.Language.{letters_of}
use Rattle.language.specs.declared.Letters.{Letters}
use Rattle.media.specs.Handlers as handlers
use Rattle.media.specs.Entries as entries
use Rattle.trak_boxes.specs.TrakBoxes.{tkhd_in, mdhd_in, hdlr_in, stsz_in, kind_in}
use Rattle.numbers.specs.declared.Refusal.{Refusal}
use Rattle.stsz.specs.declared.Stsz.{Stsz}
use Rattle.media.specs.declared.entries.Media.{Media}
use Rattle.media.specs.declared.handlers.Kind.{Kind}
use Rattle.hdlr.specs.declared.Hdlr.{Hdlr}
use Rattle.mdhd.specs.declared.Mdhd.{Mdhd}
use Rattle.tkhd.specs.declared.Tkhd.{Tkhd}

abbrev pub numbered : Result Tkhd Refusal → Result ℕ Refusal
numbered (Ok m) = Ok m.track_id
numbered (Err q) = Err q

abbrev pub number_of : List ℕ → Result ℕ Refusal
number_of t = numbered (tkhd_in t)

abbrev pub timed : Result Mdhd Refusal → Result ℕ Refusal
timed (Ok m) = Ok m.timescale
timed (Err q) = Err q

abbrev pub timescale_of : List ℕ → Result ℕ Refusal
timescale_of t = timed (mdhd_in t)

abbrev pub spoken : Result Mdhd Refusal → Result Letters Refusal
spoken (Ok m) = Ok (letters_of m.language)
spoken (Err q) = Err q

abbrev pub language_of : List ℕ → Result Letters Refusal
language_of t = spoken (mdhd_in t)

abbrev pub handled : Result Hdlr Refusal → Result Kind Refusal
handled (Ok m) = handlers.kind_of m.handler_type
handled (Err q) = Err q

abbrev pub kind_of : List ℕ → Result Kind Refusal
kind_of t = handled (hdlr_in t)

abbrev pub coded : Result ℕ Refusal → Result Media Refusal
coded (Ok letters) = entries.media_of letters
coded (Err q) = Err q

abbrev pub media_of : List ℕ → Result Media Refusal
media_of t = coded (kind_in t)

abbrev pub counted : Result (Stsz × ℕ) Refusal → Result ℕ Refusal
counted (Ok (m, place)) = Ok m.count
counted (Err q) = Err q

abbrev pub samples_of : List ℕ → Result ℕ Refusal
samples_of t = counted (stsz_in t)
