use mathlib.Core.Path.{refl}
use native.Mathlib.Omega.{arith}
use Rattle.language.proofs.LanguageLaws.{bits_is, has-bits, lacks-bits}
use Rattle.language.proofs.code_of.Goals as goal

pub returns-in_default : goal.returns-in_default
returns-in_default c =
    lacks-bits _ _ c.bits.ensures _ _ _ _ c.in_default.is refl

pub returns-in_default-bits : goal.returns-in_default-bits
returns-in_default-bits c =
    has-bits _ _ c.bits.ensures _ _ _ _ c.in-Ok.is (lacks-bits _ _ c.bits-2.ensures _ _ _ _ c.in_default-bits.is refl)

pub returns-in_default-bits-2 : goal.returns-in_default-bits-2
returns-in_default-bits-2 c =
    has-bits _ _ c.bits.ensures _ _ _ _ c.in-Ok.is (has-bits _ _ c.bits-2.ensures _ _ _ _ c.in-Ok-bits.is (lacks-bits _ _ c.bits-3.ensures _ _ _ _ c.in_default-bits-2.is refl))

pub overflow_mul-result : goal.overflow_mul-result
overflow_mul-result c =
    omega (arith, bits_is c.args.letters.first _ c.bits.ensures _ c.in-Ok.is)

pub overflow_add-result : goal.overflow_add-result
overflow_add-result c =
    omega (arith, bits_is c.args.letters.first _ c.bits.ensures _ c.in-Ok.is, bits_is c.args.letters.second _ c.bits-2.ensures _ c.in-Ok-bits.is)

pub overflow_add-result-2 : goal.overflow_add-result-2
overflow_add-result-2 c =
    omega (arith, bits_is c.args.letters.first _ c.bits.ensures _ c.in-Ok.is, bits_is c.args.letters.second _ c.bits-2.ensures _ c.in-Ok-bits.is, bits_is c.args.letters.third _ c.bits-3.ensures _ c.in-Ok-bits-2.is)

pub returns : goal.returns
returns c =
    has-bits _ _ c.bits.ensures _ _ _ _ c.in-Ok.is (has-bits _ _ c.bits-2.ensures _ _ _ _ c.in-Ok-bits.is (has-bits _ _ c.bits-3.ensures _ _ _ _ c.in-Ok-bits-2.is (refl)))
