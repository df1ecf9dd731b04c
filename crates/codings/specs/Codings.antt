-- What the readers of the boxes that say how samples are coded refuse (ISO/IEC 14496-12, 8.5.2; A24): each box's own
-- refusal, with its position from the part's start on. A type whose content is not read is fine. Assumes nothing.
use Rattle.std.specs.Prelude.{ℕ, List, [], ◌∷◌, eqb, Result, Ok, Err}
use Rattle.numbers.specs.Field.{when}
use Rattle.places.specs.Kinds as kinds
use Rattle.visual.specs.Visual.{visual_of}
use Rattle.avcc.specs.Avcc.{avcc_of}
use Rattle.mp4a.specs.Mp4a.{mp4a_of}
use Rattle.esds.specs.Esds.{esds_of}
use Rattle.vpcc.specs.Vpcc.{vpcc_of}
use Rattle.tx3g.specs.Tx3g.{tx3g_of}
use Rattle.numbers.specs.declared.Refusal.{Refusal}
use Rattle.tx3g.specs.declared.Tx3g.{Tx3g}
use Rattle.vpcc.specs.declared.Vpcc.{Vpcc}
use Rattle.esds.specs.declared.Esds.{Esds}
use Rattle.esds.specs.declared.Places.{Places}
use Rattle.mp4a.specs.declared.Mp4a.{Mp4a}
use Rattle.avcc.specs.declared.Avcc.{Avcc}
use Rattle.avcc.specs.declared.Places as avcc-is
use Rattle.visual.specs.declared.Visual.{Visual}

-- A TABLE OF READERS

-- a type, and what its reader refuses of a part
pub record Reader : Type 0 where
  pub kind : ℕ
  pub fault : List ℕ → Result (Unit {0}) Refusal

abbrev pub reader : ℕ → (List ℕ → Result (Unit {0}) Refusal) → Reader
reader kind fault = record { kind = kind; fault = fault }

-- the reader of a type, asked; `other` for a type that is not in the table
unfoldable pub pick : Result (Unit {0}) Refusal → ℕ → List ℕ → List Reader → Result (Unit {0}) Refusal
pick other kind part [] = other
pick other kind part (r ∷ rs) = when (eqb kind r.kind) (r.fault part) (pick other kind part rs)

-- THESE READERS

abbrev pub visual_fault : Result Visual Refusal → Result (Unit {0}) Refusal
visual_fault (Ok m) = (Ok tt)
visual_fault (Err q) = Err q

abbrev pub avcc_fault : Result (Avcc × avcc-is.Places) Refusal → Result (Unit {0}) Refusal
avcc_fault (Ok (m, at)) = (Ok tt)
avcc_fault (Err q) = Err q

abbrev pub mp4a_fault : Result Mp4a Refusal → Result (Unit {0}) Refusal
mp4a_fault (Ok m) = (Ok tt)
mp4a_fault (Err q) = Err q

abbrev pub esds_fault : Result (Esds × Places) Refusal → Result (Unit {0}) Refusal
esds_fault (Ok (m, at)) = (Ok tt)
esds_fault (Err q) = Err q

abbrev pub vpcc_fault : Result (Vpcc × ℕ) Refusal → Result (Unit {0}) Refusal
vpcc_fault (Ok (m, at)) = (Ok tt)
vpcc_fault (Err q) = Err q

abbrev pub tx3g_fault : Result Tx3g Refusal → Result (Unit {0}) Refusal
tx3g_fault (Ok m) = (Ok tt)
tx3g_fault (Err q) = Err q

unfoldable pub codings : List Reader
codings =
    reader kinds.avc1 (λ part. visual_fault (visual_of kinds.avc1 part)) ∷
    reader kinds.vp09 (λ part. visual_fault (visual_of kinds.vp09 part)) ∷
    reader kinds.avcc (λ part. avcc_fault (avcc_of part)) ∷
    reader kinds.mp4a (λ part. mp4a_fault (mp4a_of part)) ∷
    reader kinds.esds (λ part. esds_fault (esds_of part)) ∷
    reader kinds.vpcc (λ part. vpcc_fault (vpcc_of part)) ∷
    reader kinds.tx3g (λ part. tx3g_fault (tx3g_of part)) ∷
    []

abbrev pub coding_of : ℕ → List ℕ → Result (Unit {0}) Refusal
coding_of kind part = pick (Ok tt) kind part codings
