-- The boxes that were recorded before a box: whether one of them passes a test, and what they add up to.
-- Assumes nothing.
use Rattle.std.specs.Prelude.{ℕ, zero, suc, ◌+◌, Bool, true, false}
use Rattle.numbers.specs.Field.{when}

unfoldable pub some : (ℕ → Bool) → ℕ → Bool
some p zero = false
some p (suc n) = when (some p n) true (p n)

unfoldable pub sum : (ℕ → ℕ) → ℕ → ℕ
sum f zero = 0
sum f (suc n) = sum f n + f n
