-- The four numbers: what was read of them, and that they lie in the box. Assumes nothing.
use Rattle.std.specs.Prelude.{Result, Ok, Err}
use mathlib.Core.Path.{◌≡◌, sym, ap}
use mathlib.Core.List.{List}
use mathlib.Core.Logic.{⊎_elim}
use Prim.Native.Nat.{ℕ, ◌+◌, ◌≤◌}
use native.Mathlib.Omega.{arith}
use lib.ListN.{length}
use Rattle.numbers.specs.Number.{be}
use Rattle.numbers.specs.declared.Refusal.{Refusal}
use Rattle.numbers.proofs.Chain.{field-way}
use Rattle.emsg.specs.Emsg.{numbers_of}
use Rattle.emsg.proofs.Texts.{one-answer}

pub record Four (w : ℕ) (b : List ℕ) (at s t d i : ℕ) : Type 0 where
  pub within : at + 4 + w + 4 + 4 ≤ length b
  pub scale : s ≡ be 4 b at
  pub time : t ≡ be w b (at + 4)
  pub duration : d ≡ be 4 b (at + 4 + w)
  pub id : i ≡ be 4 b (at + 4 + w + 4)

pub four : (w : ℕ) (b : List ℕ) (at s t d i : ℕ) → numbers_of w b at ≡ Ok (s, t, d, i) → Four w b at s t d i
four w b at s t d i e =
    ⊎_elim
    (λ y. ⊎_elim
    (λ x. ⊎_elim
    (λ v. ⊎_elim
    (λ u.
    let q = one-answer {A = ℕ × ℕ × ℕ × ℕ} {E = Refusal} (be 4 b at, be w b (at + 4), be 4 b (at + 4 + w), be 4 b (at + 4 + w + 4)) (s, t, d, i) u.1 in
    record { within = u.0; scale = sym (ap (λ x. x.0) q); time = sym (ap (λ x. x.1) q); duration = sym (ap (λ x. x.2) q); id = sym (ap (λ x. x.3) q) })
    (λ u. refused _ u.1)
    (field-way 4 b (at + 4 + w + 4) Err _ _ v.1))
    (λ v. refused _ v.1)
    (field-way 4 b (at + 4 + w) Err _ _ x.1))
    (λ x. refused _ x.1)
    (field-way w b (at + 4) Err _ _ y.1))
    (λ y. refused _ y.1)
    (field-way 4 b at Err _ _ e)
  where
    refused : (q : Refusal) → ◌≡◌ {A = Result (ℕ × ℕ × ℕ × ℕ) Refusal} (Err q) (Ok (s, t, d, i)) → Four w b at s t d i
    refused q e = let z : ◌≡◌ {A = ℕ} 0 1 = cc e in absurd (omega arith)
