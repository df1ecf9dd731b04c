-- The language of a track (ISO/IEC 14496-12, 8.4.2.3): a pad bit, and three letters of 5 bits, each less 0x60. A65:
-- what
-- is read may be no letter; what 5 bits do not hold is not written (13). Assumes nothing.
use Rattle.std.specs.Prelude.{ℕ, ◌+◌, ◌-◌, ◌*◌, ◌/◌, ◌%◌, ltb, Result, Ok, Err}
use Rattle.numbers.specs.Field.{when}
use Rattle.numbers.specs.declared.Refusal.TheVariants as refusal
use Rattle.numbers.specs.declared.Refusal.{Refusal}
use Rattle.language.specs.declared.Letters.{Letters}

abbrev pub letters_of : ℕ → Letters
letters_of code = record { first = code / 1024 % 32 + 0x60; second = code / 32 % 32 + 0x60; third = code % 32 + 0x60 }

-- the 5 bits of a letter, and on
unfoldable pub five : {A : Type 0} → (Refusal → A) → ℕ → (ℕ → A) → A
five refused x go = when (ltb x 0x60) (refused refusal.Unwritable) (when (ltb 0x7f x) (refused refusal.Unwritable) (go (x - 0x60)))

abbrev pub code_of : Letters → Result ℕ Refusal
code_of l = five Err l.first (λ a. five Err l.second (λ b. five Err l.third (λ c. Ok (a * 1024 + b * 32 + c))))
