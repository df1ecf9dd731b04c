-- What the readers of a trak's boxes answer (ISO/IEC 14496-12, 8.3.2, 8.4.2, 8.4.3, 8.5.2, 8.7.3), of the box that lies in
-- its place; Missing where it is not there, with the type of the first box on the way that is missing (document 01, Needed).
-- Assumes nothing.
use Rattle.std.specs.Prelude.{ℕ, List, Result, Ok, Err}
use Rattle.numbers.specs.Field.{when, or_zero}
use Rattle.numbers.specs.declared.Refusal.TheVariants as refusal
use Rattle.numbers.specs.declared.Refusal.{Refusal}
use Rattle.places.specs.Kinds as kinds
use Rattle.tkhd.specs.Tkhd.{tkhd_of}
use Rattle.mdhd.specs.Mdhd.{mdhd_of}
use Rattle.hdlr.specs.Hdlr.{hdlr_of}
use Rattle.stsz.specs.Stsz.{stsz_of}
use Rattle.stsd.specs.Stsd.{stsd_of}
use Rattle.trak.specs.Trak as trak
use Rattle.trak.specs.Trak.{absent, missing_in_mdia, missing_in_stbl}
use Rattle.stsd.specs.declared.Stsd.{Stsd}
use Rattle.stsz.specs.declared.Stsz.{Stsz}
use Rattle.hdlr.specs.declared.Hdlr.{Hdlr}
use Rattle.mdhd.specs.declared.Mdhd.{Mdhd}
use Rattle.tkhd.specs.declared.Tkhd.{Tkhd}

-- what is told of a part, or Missing with a type where the part is not there
abbrev pub needed : {A : Type 0} → (Refusal → A) → ℕ → List ℕ → A → A
needed refused kind part told = when (absent part) (refused (refusal.Missing kind)) told

unfoldable pub tkhd_in : List ℕ → Result Tkhd Refusal
tkhd_in t = needed Err kinds.tkhd (trak.tkhd_of t) (tkhd_of (trak.tkhd_of t))

unfoldable pub mdhd_in : List ℕ → Result Mdhd Refusal
mdhd_in t = needed Err (missing_in_mdia kinds.mdhd t) (trak.mdhd_of t) (mdhd_of (trak.mdhd_of t))

unfoldable pub hdlr_in : List ℕ → Result Hdlr Refusal
hdlr_in t = needed Err (missing_in_mdia kinds.hdlr t) (trak.hdlr_of t) (hdlr_of (trak.hdlr_of t))

unfoldable pub stsz_in : List ℕ → Result (Stsz × ℕ) Refusal
stsz_in t = needed Err (missing_in_stbl kinds.stsz t) (trak.stsz_of t) (stsz_of (trak.stsz_of t))

unfoldable pub stsd_in : List ℕ → Result Stsd Refusal
stsd_in t = needed Err (missing_in_stbl kinds.stsd t) (trak.stsd_of t) (stsd_of (trak.stsd_of t))

-- the type of the first sample entry, by what is told of the stsd; 0 where it has none
abbrev pub typed : List ℕ → Result Stsd Refusal → Result ℕ Refusal
typed entry (Ok m) = Ok (or_zero 4 entry 4)
typed entry (Err q) = Err q

abbrev pub kind_in : List ℕ → Result ℕ Refusal
kind_in t = typed (trak.entry_of t) (stsd_in t)
