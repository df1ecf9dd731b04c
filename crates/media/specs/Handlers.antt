-- The kind of a track by the handler type in its hdlr (ISO/IEC 14496-12, 8.4.3 and 12.1.1, 12.2.1: 'vide' and 'soun';
-- 'sbtl' is QuickTime's, as document 01 has it). Another handler is 8 (A26, A63). Assumes nothing.
use Rattle.std.specs.Prelude.{ℕ, eqb, Result, Ok, Err}
use Rattle.numbers.specs.Field.{when}
use Rattle.numbers.specs.declared.Refusal.TheVariants as refusal
use Rattle.media.specs.declared.handlers.Kind.{Kind}
use Rattle.media.specs.declared.handlers.Kind.TheVariants.{Video, Audio, Subtitle}
use Rattle.numbers.specs.declared.Refusal.{Refusal}

-- the number of the four letters
abbrev pub letters_of : Kind → ℕ
letters_of Video = 0x76696465
letters_of Audio = 0x736f756e
letters_of Subtitle = 0x7362746c

abbrev pub kind_of : ℕ → Result Kind Refusal
kind_of n =
    when (eqb n (letters_of Video)) (Ok Video)
    (when (eqb n (letters_of Audio)) (Ok Audio)
    (when (eqb n (letters_of Subtitle)) (Ok Subtitle)
    (Err (refusal.Value 0))))
