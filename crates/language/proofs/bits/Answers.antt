use mathlib.Core.Path.{refl}
use mathlib.Core.Logic.{inl, inr}
use Rattle.language.proofs.LanguageLaws.{is-five, no-five}
use Rattle.language.proofs.bits.Goals as goal

pub returns-then-x-lt96 : goal.returns-then-x-lt96
returns-then-x-lt96 c =
    no-five _ c.args.x _ _ (inl c.if-x-lt96.true) refl

pub returns-then-x-gt127 : goal.returns-then-x-gt127
returns-then-x-gt127 c =
    no-five _ c.args.x _ _ (inr c.if-x-gt127.true) refl

pub returns : goal.returns
returns c =
    is-five _ c.args.x _ _ c.if-x-lt96.false c.if-x-gt127.false refl
