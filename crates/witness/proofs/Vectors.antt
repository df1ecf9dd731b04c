-- Worked examples: verdicts in words, and what is told of a file without a byte. Assumes nothing.
use Rattle.std.specs.Prelude.{Ok, Err}
use Prim.Native.Nat.{ℕ}
use mathlib.Core.Path.{◌≡◌, refl}
use mathlib.Core.List.{List, [], ◌∷◌}
use lib.IntN.{negsuc}
use lib.ListN.{replicate}
use Rattle.numbers.specs.Field.{when}
use Rattle.numbers.specs.declared.Refusal.TheVariants as refusal
use Rattle.samples.specs.Records.{output}
use Rattle.places.specs.Kinds.{ftyp}
use Rattle.tree.specs.Walk.{siblings, kids_of}
use Rattle.tree.specs.Tables.{puts}
use Rattle.kin.specs.Before.{some}
use Rattle.inside.specs.Inside.{next_in, child}
use Rattle.needed.specs.First.{first}
use Rattle.needed.specs.Needed.{each, needed, in_file}
use Rattle.opening.specs.Opening.{first_fault, refusal_of}
use Rattle.verdicts.specs.Findings.{F8}
use Rattle.verdicts.specs.declared.Audited.TheVariants.{Clean, Found, Refused}
use Rattle.audit.specs.Boxes.{scanned_of, boxes_of}
use Rattle.audit.specs.File.{open_of, audit_file}
use Rattle.opened.specs.Opened.{tell_of}
use Rattle.witness.specs.Says.{said, in_words, verdict_says, output_says, audit_says, track_says, list_says, sample_says, summary_says}

-- what lies past the four words stays
case-clean : verdict_says (Clean 2 289 33420) (replicate 5 9) ≡ said 0 0 (2 ∷ 289 ∷ 33420 ∷ 0 ∷ 9 ∷ [])
unfolding in_words when
case-clean = refl

-- the gap is -500
case-found : verdict_says (Found (F8 1 804 (negsuc 499))) (replicate 4 9) ≡ said 0 8 (1 ∷ 0 ∷ 804 ∷ 0xffff_ffff_ffff_fe0c ∷ [])
unfolding in_words when
case-found = refl

case-no-room : verdict_says (Clean 2 289 33420) (replicate 3 9) ≡ said 12 4 (replicate 3 9)
unfolding in_words when
case-no-room = refl

-- a refusal goes before the 12
case-refused : verdict_says (Refused (refusal.Cut 48)) [] ≡ said 1 48 []
case-refused = refl

-- one record
case-told : output_says (output (Ok 1) (1 ∷ 48 ∷ 10 ∷ 0 ∷ 1000 ∷ 0 ∷ 1 ∷ [])) ≡ said 0 1 (1 ∷ 48 ∷ 10 ∷ 0 ∷ 1000 ∷ 0 ∷ 1 ∷ [])
case-told = refl

case-not-told : output_says (output (Err (refusal.NoSample 5)) []) ≡ said 11 5 []
case-not-told = refl

-- A FILE WITHOUT A BYTE: its ftyp is missing, whatever is asked

case-audit : (o : List ℕ) → audit_says [] o ≡ said 5 ftyp o
unfolding when siblings kids_of puts scanned_of boxes_of some next_in child first each needed in_file first_fault refusal_of open_of audit_file
case-audit o = refl

case-track : (place : ℕ) → track_says [] place ≡ said 5 ftyp []
unfolding when siblings kids_of puts scanned_of boxes_of some next_in child first each needed in_file first_fault refusal_of tell_of
case-track place = refl

case-list : (place : ℕ) (o : List ℕ) → list_says [] place o ≡ said 5 ftyp o
unfolding when siblings kids_of puts scanned_of boxes_of some next_in child first each needed in_file first_fault refusal_of tell_of
case-list place o = refl

case-sample : (place number : ℕ) (o : List ℕ) → sample_says [] place number o ≡ said 5 ftyp o
unfolding when siblings kids_of puts scanned_of boxes_of some next_in child first each needed in_file first_fault refusal_of tell_of
case-sample place number o = refl

case-summary : (place : ℕ) (o : List ℕ) → summary_says [] place o ≡ said 5 ftyp o
unfolding when siblings kids_of puts scanned_of boxes_of some next_in child first each needed in_file first_fault refusal_of tell_of
case-summary place o = refl
