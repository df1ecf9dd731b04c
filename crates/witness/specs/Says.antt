-- What a caller in another language is told: the number of the answer (0, or the refusal's), what document 01 returns
-- beside it ("Also returned"), and the lent words as they are left. Assumes nothing.
use Rattle.std.specs.Prelude.{ℕ, List, [], ◌∷◌, length, leb, Result, Ok, Err}
use Rattle.std.proofs.lemmas.List.Edits.{sets}
use Rattle.numbers.specs.Field.{when}
use Rattle.numbers.specs.Refusals.{code, detail}
use Rattle.samples.specs.Records.{bits_of, Output, output}
use Rattle.verdicts.specs.declared.Audited.{Audited}
use Rattle.verdicts.specs.declared.Audited.TheVariants.{Clean, Found, Refused}
use Rattle.audit.specs.File.{audit_file}
use Rattle.opened.specs.Opened.{tell_of}
use Rattle.opened.specs.declared.Question.TheVariants as question
use Rattle.witness.specs.declared.Answer.{Answer}
use Rattle.numbers.specs.declared.Refusal.{Refusal}

pub data Said : Type 0 where
  said : ℕ → ℕ → List ℕ → Said

abbrev pub answered : Answer → List ℕ → Said
answered a o = said a.number a.also o

-- THE VERDICT

-- words at the start, and what is told beside them; 12 with how many they are where they have no room
unfoldable pub in_words : List ℕ → ℕ → List ℕ → Said
in_words ws also o = when (leb (length ws) (length o)) (said 0 also (sets o 0 ws)) (said 12 (length ws) o)

abbrev pub four_say : ℕ → ℕ → ℕ → ℕ → ℕ → List ℕ → Said
four_say also a b c d o = in_words (a ∷ b ∷ c ∷ d ∷ []) also o

-- beside the four words: 0 for clean, else the number of the finding. A refusal of the file goes before the 12
abbrev pub verdict_says : Audited → List ℕ → Said
verdict_says (Clean tracks samples media) o = four_say 0 tracks samples media 0 o
verdict_says (Found g) o = four_say g.number g.track g.sample g.position (bits_of g.gap) o
verdict_says (Refused q) o = said (code q) (detail q) o

abbrev pub audit_says : List ℕ → List ℕ → Said
audit_says f o = verdict_says (audit_file f) o

-- ONE TRACK

-- beside the words: how many records or words they are, or the refusal's detail
abbrev pub answer_by : Result ℕ Refusal → Answer
answer_by (Ok n) = record { number = 0; also = n }
answer_by (Err q) = record { number = code q; also = detail q }

abbrev pub output_says : Output → Said
output_says (output l o) = answered (answer_by l) o

-- of the track at a place in the moov, counted from 0: its number, for which no words are lent; its samples, one of them,
-- its figures
abbrev pub track_says : List ℕ → ℕ → Said
track_says f place = output_says (tell_of f place question.Number [])

abbrev pub list_says : List ℕ → ℕ → List ℕ → Said
list_says f place o = output_says (tell_of f place question.List o)

abbrev pub sample_says : List ℕ → ℕ → ℕ → List ℕ → Said
sample_says f place number o = output_says (tell_of f place (question.Sample number) o)

abbrev pub summary_says : List ℕ → ℕ → List ℕ → Said
summary_says f place o = output_says (tell_of f place question.Summary o)
