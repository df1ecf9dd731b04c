-- What the reader of a box of any type refuses: the box's own refusal, with its position from the part's start on. A
-- type whose content is not read is fine. Assumes nothing.
use Rattle.std.specs.Prelude.{ℕ, List, [], ◌∷◌, Result, Ok, Err}
use Rattle.places.specs.Kinds as kinds
use Rattle.codings.specs.Codings.{Reader, reader, pick, coding_of}
use Rattle.emsg.specs.Emsg.{emsg_of}
use Rattle.trex.specs.Trex.{trex_of}
use Rattle.tkhd.specs.Tkhd.{tkhd_of}
use Rattle.elst.specs.Elst.{elst_of}
use Rattle.mdhd.specs.Mdhd.{mdhd_of}
use Rattle.hdlr.specs.Hdlr.{hdlr_of}
use Rattle.dref.specs.Dref.{dref_of}
use Rattle.url_box.specs.Url.{url_of}
use Rattle.stsd.specs.Stsd.{stsd_of}
use Rattle.stts.specs.Stts.{stts_of}
use Rattle.ctts.specs.Ctts.{ctts_of}
use Rattle.stsc.specs.Stsc.{stsc_of}
use Rattle.stsz.specs.Stsz.{stsz_of}
use Rattle.stco.specs.Stco.{stco_of}
use Rattle.co64.specs.Co64.{co64_of}
use Rattle.stss.specs.Stss.{stss_of}
use Rattle.mfhd.specs.Mfhd.{mfhd_of}
use Rattle.tfhd.specs.Tfhd.{tfhd_of}
use Rattle.tfdt.specs.Tfdt.{tfdt_of}
use Rattle.trun.specs.Trun.{trun_of}
use Rattle.numbers.specs.declared.Refusal.{Refusal}
use Rattle.trun.specs.declared.Trun.{Trun}
use Rattle.tfdt.specs.declared.Tfdt.{Tfdt}
use Rattle.tfhd.specs.declared.Tfhd.{Tfhd}
use Rattle.mfhd.specs.declared.Mfhd.{Mfhd}
use Rattle.stss.specs.declared.Stss.{Stss}
use Rattle.co64.specs.declared.Co64.{Co64}
use Rattle.stco.specs.declared.Stco.{Stco}
use Rattle.stsz.specs.declared.Stsz.{Stsz}
use Rattle.stsc.specs.declared.Stsc.{Stsc}
use Rattle.ctts.specs.declared.Ctts.{Ctts}
use Rattle.stts.specs.declared.Stts.{Stts}
use Rattle.stsd.specs.declared.Stsd.{Stsd}
use Rattle.url_box.specs.declared.Url.{Url}
use Rattle.dref.specs.declared.Dref.{Dref}
use Rattle.hdlr.specs.declared.Hdlr.{Hdlr}
use Rattle.mdhd.specs.declared.Mdhd.{Mdhd}
use Rattle.elst.specs.declared.Elst.{Elst}
use Rattle.tkhd.specs.declared.Tkhd.{Tkhd}
use Rattle.trex.specs.declared.Trex.{Trex}
use Rattle.emsg.specs.declared.Emsg.{Emsg}
use Rattle.emsg.specs.declared.Places.{Places}

-- what each reader's answer refuses
abbrev pub emsg_fault : Result (Emsg × Places) Refusal → Result (Unit {0}) Refusal
emsg_fault (Ok (m, at)) = (Ok tt)
emsg_fault (Err q) = Err q

abbrev pub trex_fault : Result Trex Refusal → Result (Unit {0}) Refusal
trex_fault (Ok m) = (Ok tt)
trex_fault (Err q) = Err q

abbrev pub tkhd_fault : Result Tkhd Refusal → Result (Unit {0}) Refusal
tkhd_fault (Ok m) = (Ok tt)
tkhd_fault (Err q) = Err q

abbrev pub elst_fault : Result (Elst × ℕ) Refusal → Result (Unit {0}) Refusal
elst_fault (Ok (m, at)) = (Ok tt)
elst_fault (Err q) = Err q

abbrev pub mdhd_fault : Result Mdhd Refusal → Result (Unit {0}) Refusal
mdhd_fault (Ok m) = (Ok tt)
mdhd_fault (Err q) = Err q

abbrev pub hdlr_fault : Result Hdlr Refusal → Result (Unit {0}) Refusal
hdlr_fault (Ok m) = (Ok tt)
hdlr_fault (Err q) = Err q

abbrev pub dref_fault : Result Dref Refusal → Result (Unit {0}) Refusal
dref_fault (Ok m) = (Ok tt)
dref_fault (Err q) = Err q

abbrev pub url_fault : Result Url Refusal → Result (Unit {0}) Refusal
url_fault (Ok m) = (Ok tt)
url_fault (Err q) = Err q

abbrev pub stsd_fault : Result Stsd Refusal → Result (Unit {0}) Refusal
stsd_fault (Ok m) = (Ok tt)
stsd_fault (Err q) = Err q

abbrev pub stts_fault : Result (Stts × ℕ) Refusal → Result (Unit {0}) Refusal
stts_fault (Ok (m, at)) = (Ok tt)
stts_fault (Err q) = Err q

abbrev pub ctts_fault : Result (Ctts × ℕ) Refusal → Result (Unit {0}) Refusal
ctts_fault (Ok (m, at)) = (Ok tt)
ctts_fault (Err q) = Err q

abbrev pub stsc_fault : Result (Stsc × ℕ) Refusal → Result (Unit {0}) Refusal
stsc_fault (Ok (m, at)) = (Ok tt)
stsc_fault (Err q) = Err q

abbrev pub stsz_fault : Result (Stsz × ℕ) Refusal → Result (Unit {0}) Refusal
stsz_fault (Ok (m, at)) = (Ok tt)
stsz_fault (Err q) = Err q

abbrev pub stco_fault : Result (Stco × ℕ) Refusal → Result (Unit {0}) Refusal
stco_fault (Ok (m, at)) = (Ok tt)
stco_fault (Err q) = Err q

abbrev pub co64_fault : Result (Co64 × ℕ) Refusal → Result (Unit {0}) Refusal
co64_fault (Ok (m, at)) = (Ok tt)
co64_fault (Err q) = Err q

abbrev pub stss_fault : Result (Stss × ℕ) Refusal → Result (Unit {0}) Refusal
stss_fault (Ok (m, at)) = (Ok tt)
stss_fault (Err q) = Err q

abbrev pub mfhd_fault : Result Mfhd Refusal → Result (Unit {0}) Refusal
mfhd_fault (Ok m) = (Ok tt)
mfhd_fault (Err q) = Err q

abbrev pub tfhd_fault : Result Tfhd Refusal → Result (Unit {0}) Refusal
tfhd_fault (Ok m) = (Ok tt)
tfhd_fault (Err q) = Err q

abbrev pub tfdt_fault : Result Tfdt Refusal → Result (Unit {0}) Refusal
tfdt_fault (Ok m) = (Ok tt)
tfdt_fault (Err q) = Err q

abbrev pub trun_fault : Result (Trun × ℕ) Refusal → Result (Unit {0}) Refusal
trun_fault (Ok (m, at)) = (Ok tt)
trun_fault (Err q) = Err q

unfoldable pub readers : List Reader
readers =
    reader kinds.emsg (λ part. emsg_fault (emsg_of part)) ∷
    reader kinds.trex (λ part. trex_fault (trex_of part)) ∷
    reader kinds.tkhd (λ part. tkhd_fault (tkhd_of part)) ∷
    reader kinds.elst (λ part. elst_fault (elst_of part)) ∷
    reader kinds.mdhd (λ part. mdhd_fault (mdhd_of part)) ∷
    reader kinds.hdlr (λ part. hdlr_fault (hdlr_of part)) ∷
    reader kinds.dref (λ part. dref_fault (dref_of part)) ∷
    reader kinds.url (λ part. url_fault (url_of part)) ∷
    reader kinds.stsd (λ part. stsd_fault (stsd_of part)) ∷
    reader kinds.stts (λ part. stts_fault (stts_of part)) ∷
    reader kinds.ctts (λ part. ctts_fault (ctts_of part)) ∷
    reader kinds.stsc (λ part. stsc_fault (stsc_of part)) ∷
    reader kinds.stsz (λ part. stsz_fault (stsz_of part)) ∷
    reader kinds.stco (λ part. stco_fault (stco_of part)) ∷
    reader kinds.co64 (λ part. co64_fault (co64_of part)) ∷
    reader kinds.stss (λ part. stss_fault (stss_of part)) ∷
    reader kinds.mfhd (λ part. mfhd_fault (mfhd_of part)) ∷
    reader kinds.tfhd (λ part. tfhd_fault (tfhd_of part)) ∷
    reader kinds.tfdt (λ part. tfdt_fault (tfdt_of part)) ∷
    reader kinds.trun (λ part. trun_fault (trun_of part)) ∷
    []

-- the reader of a type, asked: one of these, or of those that say how samples are coded
abbrev pub fault_of : ℕ → List ℕ → Result (Unit {0}) Refusal
fault_of kind part = pick (coding_of kind part) kind part readers
