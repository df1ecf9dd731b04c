-- The first of the rows of a table that has something to tell. 0 tells nothing. Assumes nothing.
use Rattle.std.specs.Prelude.{ℕ, zero, suc, ◌+◌, Bool, eqb}
use Rattle.numbers.specs.Field.{when}

abbrev pub or_else : ℕ → ℕ → ℕ
or_else a b = when (eqb a 0) b a

-- what the first of n rows tells that tells something
unfoldable pub first : (ℕ → ℕ) → ℕ → ℕ
first tells zero = 0
first tells (suc n) = or_else (first tells n) (tells n)

-- the first of n rows that passes a test, and 1, as the tables name a parent; 0 where none passes
abbrev pub row_of : (ℕ → Bool) → ℕ → ℕ
row_of test n = first (λ j. when (test j) (j + 1) 0) n
