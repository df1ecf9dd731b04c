-- The language's letters: each law of a letter once for any answer, and both round trips. Assumes nothing.
use Rattle.std.specs.Prelude.{Result, Ok, Err}
use mathlib.Core.Path.{◌≡◌, refl, sym, ap, ◌∙◌}
use mathlib.Core.Logic.{◌⊎◌, inl, inr, ⊎_elim}
use mathlib.Core.Bool.{Bool, true, false}
use Prim.Native.Nat.{ℕ, ◌+◌, ◌-◌, ◌*◌, ◌/◌, ◌%◌, ◌≤◌, ◌<◌}
use native.Mathlib.Omega.{arith}
use lib.Dec.{ltb}
use borrow.Author.Tests.{ltb-true, ltb-false}
use Rattle.numbers.specs.Field.{when}
use Rattle.numbers.specs.declared.Refusal.TheVariants as refusal
use Rattle.numbers.specs.declared.Refusal.{Refusal}
use Rattle.numbers.proofs.Chain.{way, is_lt, not-lt}
use Rattle.language.specs.Language.{letters_of, five, code_of}
use Rattle.language.specs.declared.Letters.{Letters}

module _ {A : Type 0} (away : Refusal → A) (x : ℕ) (go : ℕ → A) (z : A) where
  pub is-five : 0x60 ≤ x → x ≤ 0x7f → z ≡ go (x - 0x60) → z ≡ five away x go
  unfolding five
  is-five l h q = not-lt _ _ z x 0x60 l (not-lt _ _ z 0x7f x h q)

  pub no-five : (x < 0x60) ⊎ (0x7f < x) → z ≡ away refusal.Unwritable → z ≡ five away x go
  unfolding five when
  no-five (inl l) q = is_lt _ _ z x 0x60 l q
  no-five (inr h) q = by (ltb x 0x60)
    where
      by : (t : Bool) → z ≡ when t (away refusal.Unwritable) (when (ltb 0x7f x) (away refusal.Unwritable) (go (x - 0x60)))
      by true = q
      by false = is_lt _ _ z 0x7f x h q

  pub five-way : five away x go ≡ z → ((0x60 ≤ x) × (x ≤ 0x7f) × (go (x - 0x60) ≡ z)) ⊎ (((x < 0x60) ⊎ (0x7f < x)) × (away refusal.Unwritable ≡ z))
  unfolding five
  five-way e =
      ⊎_elim (λ y. inr (inl (ltb-true x 0x60 y.0), y.1))
      (λ y.
      ⊎_elim (λ o. inr (inr (ltb-true 0x7f x o.0), o.1)) (λ o. inl (ltb-false x 0x60 y.0, ltb-false 0x7f x o.0, o.1))
      (way (ltb 0x7f x) (away refusal.Unwritable) (go (x - 0x60)) z y.1))
      (way (ltb x 0x60) (away refusal.Unwritable) (when (ltb 0x7f x) (away refusal.Unwritable) (go (x - 0x60))) z e)

module _ (x : ℕ) (r : Result ℕ Refusal) (e : r ≡ five Err x Ok) where
  pub bits_is : (n : ℕ) → r ≡ Ok n → (0x60 ≤ x) × (x ≤ 0x7f) × (n ≡ x - 0x60)
  bits_is n f =
      ⊎_elim (λ y. (y.0, y.1, let q : n ≡ x - 0x60 = cc y.2 in q)) (λ y. let q : ◌≡◌ {A = ℕ} 0 1 = cc y.1 in absurd (omega arith))
      (five-way Err x Ok r (sym e))

  pub has-bits : {A : Type 0} (away : Refusal → A) (go : ℕ → A) (z : A) (n : ℕ) → r ≡ Ok n → z ≡ go n → z ≡ five away x go
  has-bits away go z n f q = let b = bits_is n f in is-five away x go z b.0 b.1 (q ∙ ap go b.2)

  pub lacks-bits : {A : Type 0} (away : Refusal → A) (go : ℕ → A) (z : A) (q : Refusal) → r ≡ Err q → z ≡ away refusal.Unwritable → z ≡ five away x go
  lacks-bits away go z q f o =
      ⊎_elim (λ y. let a : ◌≡◌ {A = ℕ} 0 1 = cc y.2 in absurd (omega arith)) (λ y. no-five away x go z y.0 o)
      (five-way Err x Ok r (sym e))

-- what a code of 15 bits is read as is written with that code
pub code-own : (n : ℕ) → n < 32768 → code_of (letters_of n) ≡ Ok n
code-own n h =
    sym
    (is-five Err (n / 1024 % 32 + 96) _ _ (omega arith) (omega arith)
    (is-five Err (n / 32 % 32 + 96) _ _ (omega arith) (omega arith)
    (is-five Err (n % 32 + 96) _ _ (omega arith) (omega arith)
    (ap Ok (let q : n ≡ (n / 1024 % 32 + 96 - 96) * 1024 + (n / 32 % 32 + 96 - 96) * 32 + (n % 32 + 96 - 96) = omega (arith, h) in q)))))

-- letters that are written are read back
same : (a b c a' b' c' : ℕ) → a ≡ a' → b ≡ b' → c ≡ c' → ◌≡◌ {A = Letters} (record { first = a; second = b; third = c }) (record { first = a'; second = b'; third = c' })
same a b c a' b' c' e f g = cc

digits : (a b c n : ℕ) → 0x60 ≤ a → a ≤ 0x7f → 0x60 ≤ b → b ≤ 0x7f → 0x60 ≤ c → c ≤ 0x7f → (a - 0x60) * 1024 + (b - 0x60) * 32 + (c - 0x60) ≡ n →
    letters_of n ≡ record { first = a; second = b; third = c }
digits a b c n la ha lb hb lc hc e =
    same _ _ _ a b c (omega (arith, la, ha, lb, hb, lc, hc, e)) (omega (arith, la, ha, lb, hb, lc, hc, e)) (omega (arith, la, ha, lb, hb, lc, hc, e))

pub code-back : (l : Letters) (n : ℕ) → code_of l ≡ Ok n → letters_of n ≡ l
code-back l n e =
    ⊎_elim
    (λ a.
    ⊎_elim
    (λ b.
    ⊎_elim (λ c. digits l.first l.second l.third n a.0 a.1 b.0 b.1 c.0 c.1 (same_number _ n c.2)) (λ c. none c.1)
    (five-way Err l.third _ (Ok n) b.2))
    (λ b. none b.1)
    (five-way Err l.second _ (Ok n) a.2))
    (λ a. none a.1)
    (five-way Err l.first _ (Ok n) e)
  where
    none : Err refusal.Unwritable ≡ Ok n → letters_of n ≡ l
    none q = let z : ◌≡◌ {A = ℕ} 0 1 = cc in absurd (omega arith)

    same_number : (a b : ℕ) → ◌≡◌ {A = Result _ Refusal} (Ok a) (Ok b) → a ≡ b
    same_number a b q = cc
