-- The chain of fields: what a reader of any answer type means, field after field. A definition is straight-line text,
-- field Err 4 s 0 (λ n. when (test n) (..) (field Err 2 s 4 (λ m. ..))). Assumes nothing.
use Rattle.std.specs.Prelude.{ℕ, ◌+◌, List, Bool, true, false, length, leb, Result, Ok, Err}
use Rattle.numbers.specs.Number.{be}
use Rattle.numbers.specs.declared.Refusal.{Refusal}
use Rattle.numbers.specs.declared.Refusal.TheVariants as refusal

-- one of two ways on, by a test
unfoldable pub when : {A : Type 0} → Bool → A → A → A
when true x y = x
when false x y = y

-- w bytes from `at` on are all there
abbrev pub fits : ℕ → List ℕ → ℕ → Bool
fits w s at = leb (at + w) (length s)

-- the number in the w bytes at `at`, and on with it; or refused at `at`, where the bytes end
unfoldable pub field : {A : Type 0} → (Refusal → A) → ℕ → List ℕ → ℕ → (ℕ → A) → A
field refused w s at go = when (fits w s at) (go (be w s at)) (refused (refusal.Cut at))

-- what follows an Ok; an Err is the answer
infixl 10 ◌>>=◌
abbrev pub ◌>>=◌ : {A B E : Type 0} → Result A E → (A → Result B E) → Result B E
Ok x >>= f = f x
Err e >>= f = Err e

-- the widest number that a reader hands out, in bytes
abbrev pub widest : ℕ
widest = 8

-- a field whose width is asked for: a wider number does not fit
abbrev pub number_of : ℕ → List ℕ → ℕ → Result ℕ Refusal
number_of w s at = when (leb w widest) (field Err w s at Ok) (Err refusal.Overflow)

-- the number in w bytes, or 0 where they are not all there
abbrev pub or_zero : ℕ → List ℕ → ℕ → ℕ
or_zero w s at = field (λ q. 0) w s at (λ n. n)
