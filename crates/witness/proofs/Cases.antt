-- The ways of an answer, over plain variables. Assumes nothing.
use Rattle.std.specs.Prelude.{Result}
use Prim.Native.Nat.{ℕ, ◌≤◌, ◌<◌}
use mathlib.Core.Path.{◌≡◌, refl, sym, ap, ◌∙◌}
use mathlib.Core.List.{List, [], ◌∷◌}
use native.Mathlib.Omega.{arith}
use lib.ListN.{length, set}
use Rattle.numbers.proofs.Chain.{is_le, not-le}
use Rattle.numbers.specs.Refusals.{code, detail}
use Rattle.numbers.specs.declared.Refusal.{Refusal}
use Rattle.samples.specs.Records.{bits_of, Output, output}
use Rattle.verdicts.specs.declared.Finding.{Finding}
use Rattle.verdicts.specs.declared.Audited.{Audited}
use Rattle.verdicts.specs.declared.Audited.TheVariants.{Clean, Found, Refused}
use Rattle.witness.specs.Says.{Said, said, answered, in_words, four_say, verdict_says, answer_by, output_says}
use Rattle.witness.specs.declared.Answer.{Answer}

module _ (also a b c d : ℕ) (o : List ℕ) where
  pub no_room : length o < 4 → said 12 4 o ≡ four_say also a b c d o
  unfolding in_words
  no_room h = not-le _ _ _ 4 (length o) h refl

  pub stored : 4 ≤ length o → said 0 also (set (set (set (set o 0 a) 1 b) 2 c) 3 d) ≡ four_say also a b c d o
  unfolding in_words
  stored h = is_le _ _ _ 4 (length o) h refl

module _ (x : Audited) (o : List ℕ) (z : Said) where
  pub clean : (tracks samples media : ℕ) → x ≡ Clean tracks samples media → z ≡ four_say 0 tracks samples media 0 o → z ≡ verdict_says x o
  clean tracks samples media e h = h ∙ sym (ap (λ (y : Audited). verdict_says y o) e)

  pub found : (g : Finding) (gap : ℕ) → x ≡ Found g → gap ≡ bits_of g.gap → z ≡ four_say g.number g.track g.sample g.position gap o
      → z ≡ verdict_says x o
  found g gap e b h =
      h ∙ ap (λ (k : ℕ). four_say g.number g.track g.sample g.position k o) b ∙ sym (ap (λ (y : Audited). verdict_says y o) e)

  pub refused : (q : Refusal) → x ≡ Refused q → z ≡ said (code q) (detail q) o → z ≡ verdict_says x o
  refused q e h = h ∙ sym (ap (λ (y : Audited). verdict_says y o) e)

-- what was told of a track, as it is said
pub told : (a : Answer) (l : Result ℕ Refusal) (o : List ℕ) (x : Output) → a ≡ answer_by l → output l o ≡ x → answered a o ≡ output_says x
told a l o x e h = ap (λ (b : Answer). answered b o) e ∙ ap output_says h

-- no words were lent for it
pub told-alone : (a : Answer) (l : Result ℕ Refusal) (o : List ℕ) (x : Output) → length o ≡ 0 → a ≡ answer_by l → output l o ≡ x → answered a [] ≡ output_says x
told-alone a l [] x n e h = told a l [] x e h
told-alone a l (w ∷ o) x n e h = absurd (omega (arith, n))
