-- Worked examples of the definitions, computed. Assumes nothing.
use Rattle.std.specs.Prelude.{Ok, Err}
use mathlib.Core.Path.{◌≡◌, refl}
use Rattle.numbers.specs.Field.{when}
use Rattle.numbers.specs.declared.Refusal.TheVariants as refusal
use Rattle.language.specs.Language.{letters_of, five, code_of}

-- "und" is 0x55C4, with the pad bit or without it; what is no letter is read, and a capital is not written (A65)
und : letters_of 0x55c4 ≡ record { first = 0x75; second = 0x6e; third = 0x64 }
und = refl

und-padded : letters_of 0xd5c4 ≡ record { first = 0x75; second = 0x6e; third = 0x64 }
und-padded = refl

und-code : code_of (record { first = 0x75; second = 0x6e; third = 0x64 }) ≡ Ok 0x55c4
unfolding five when
und-code = refl

none : letters_of 0 ≡ record { first = 0x60; second = 0x60; third = 0x60 }
none = refl

capital : code_of (record { first = 0x75; second = 0x4e; third = 0x64 }) ≡ Err refusal.Unwritable
unfolding five when
capital = refl

past-the-bits : code_of (record { first = 0x75; second = 0x6e; third = 0x80 }) ≡ Err refusal.Unwritable
unfolding five when
past-the-bits = refl
