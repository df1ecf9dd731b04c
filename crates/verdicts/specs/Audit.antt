-- The audit of a file, by the tracks of its moov, the payloads of its mdats and its moofs, each in the order of the file
-- (01, Audit findings): its questions in 01's order, and the first that finds. Assumes nothing.
use Rattle.std.specs.Prelude.{ℕ, List, [], ◌∷◌, ◌++◌, length, eqb}
use Rattle.numbers.specs.Field.{when}
use Rattle.samples.specs.declared.Sample.{Sample}
use Rattle.verdicts.specs.Findings.{Track, track, Claim, claim, Span, F1, F2, F3, Answer, passes, found, first_found}
use Rattle.verdicts.specs.Sweep.{total, bytes, sweep}
use Rattle.verdicts.specs.Fragments.{Moof, follow}
use Rattle.verdicts.specs.declared.Verdict.{Verdict}
use Rattle.verdicts.specs.declared.Verdict.TheVariants.{Clean, Found}
use Rattle.verdicts.specs.declared.Audited.{Audited}
use Rattle.verdicts.specs.declared.Audited.TheVariants as answer

-- F1, by track
abbrev pub agreements : List Track → List Answer
agreements [] = []
agreements (track n a l ∷ ts) = when a passes (found (F1 n)) ∷ agreements ts

-- F2 and F3, by track and sample (A40): zero duration is allowed at the track's last sample
abbrev pub sized : Claim → Answer
sized x = when (eqb x.sample.size 0) (found (F2 x)) passes

abbrev pub lasting : Claim → Answer
lasting x = when (eqb x.sample.duration 0) (found (F3 x)) passes

abbrev pub passed_in : ℕ → List Sample → List Answer
passed_in n [] = []
passed_in n (s ∷ []) = sized (claim n s) ∷ []
passed_in n (s ∷ u ∷ l) = sized (claim n s) ∷ lasting (claim n s) ∷ passed_in n (u ∷ l)

abbrev pub passed : List Track → List Answer
passed [] = []
passed (track n a l ∷ ts) = passed_in n l ++ passed ts

-- every question, in 01's order
unfoldable pub questions : List Track → List Span → List Moof → List Answer
questions ts m fs = agreements ts ++ (passed ts ++ (sweep m ts ∷ follow ts fs))

-- clean tells how much it is about (A66)
abbrev pub verdict : List Track → List Span → Answer → Verdict
verdict ts m passes = Clean (length ts) (total ts) (bytes m)
verdict ts m (found f) = Found f

unfoldable pub audit_of : List Track → List Span → List Moof → Verdict
audit_of ts m fs = verdict ts m (first_found (questions ts m fs))

-- a verdict as the answer to a file
abbrev pub audited : Verdict → Audited
audited (Clean a b c) = answer.Clean a b c
audited (Found f) = answer.Found f
