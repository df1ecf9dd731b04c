-- The audio object types that are known (ISO/IEC 14496-3, table 1.17; document 01): 1 to 9, 12 to 17, 19 to 30 and 32 to
-- 46. 0 is no type, 10, 11 and 18 are reserved, 31 is the escape to the types above it; each of these, and what is
-- above 46, is 8 (A63). Assumes nothing.
use Rattle.std.specs.Prelude.{ℕ, Bool, ◌&&◌, ◌||◌, leb, Result, Ok, Err}
use Rattle.numbers.specs.Field.{when}
use Rattle.numbers.specs.declared.Refusal.TheVariants as refusal
use Rattle.numbers.specs.declared.Refusal.{Refusal}

-- from a to b
abbrev pub among : ℕ → ℕ → ℕ → Bool
among a b n = ◌&&◌ (leb a n) (leb n b)

abbrev pub known : ℕ → Bool
known n = ◌||◌ (◌||◌ (◌||◌ (among 1 9 n) (among 12 17 n)) (among 19 30 n)) (among 32 46 n)

abbrev pub object_type : ℕ → Result ℕ Refusal
object_type n = when (known n) (Ok n) (Err (refusal.Value 0))
