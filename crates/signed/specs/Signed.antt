-- Two's complement: the integer that the w bytes of a number stand for, and the number that stands for an integer.
-- (ISO/IEC 14496-12, 4.2: signed fields.) Assumes nothing.
use Rattle.std.specs.Prelude.{ℕ, ◌-◌, ◌*◌, ◌^◌, ℤ, pos, negsuc, ltb}
use Rattle.numbers.specs.Field.{when}

-- below half of 256 ^ w a number stands for itself; from there on for itself less 256 ^ w. (negsuc k is -1 - k.)
unfoldable pub signed : ℕ → ℕ → ℤ
signed w n = when (ltb (n * 2) (256 ^ w)) (pos n) (negsuc (256 ^ w - 1 - n))

-- the number in w bytes that stands for z
abbrev pub unsigned : ℕ → ℤ → ℕ
unsigned w (pos n) = n
unsigned w (negsuc k) = 256 ^ w - 1 - k
