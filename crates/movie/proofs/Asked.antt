-- What an answer says that the code tells. Assumes nothing.
use Rattle.std.specs.Prelude.{Option, Some, None}
use mathlib.Core.Path.{◌≡◌, refl, sym, ap, ◌∙◌}
use mathlib.Core.List.{List, ◌∷◌}
use Rattle.verdicts.specs.Findings.{Answer, passes, found, first_found, asked}
use Rattle.verdicts.specs.declared.Finding.{Finding}

-- the answer that is told so
abbrev pub answer_of : Option Finding → Answer
answer_of None = passes
answer_of (Some x) = found x

module _ (a : Answer) (r : Option Finding) (e : r ≡ asked a) where
  back : answer_of r ≡ a
  back = ap answer_of e ∙ cases a
    where
      cases : (a : Answer) → answer_of (asked a) ≡ a
      cases passes = refl
      cases (found x) = refl

  pub is_found : (x : Finding) → r ≡ Some x → a ≡ found x
  is_found x q = sym back ∙ ap answer_of q

  pub is-passed : r ≡ None → a ≡ passes
  is-passed q = sym back ∙ ap answer_of q

  pub first_stops : (l : List Answer) (x : Finding) → r ≡ Some x → Some x ≡ asked (first_found (a ∷ l))
  first_stops l x q = sym (ap (λ (b : Answer). asked (first_found (b ∷ l))) (is_found x q))

  pub first_goes : (l : List Answer) → r ≡ None → first_found l ≡ first_found (a ∷ l)
  first_goes l q = sym (ap (λ (b : Answer). first_found (b ∷ l)) (is-passed q))
