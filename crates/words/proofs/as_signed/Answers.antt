use Rattle.words.proofs.Words.{signed_low, signed-fits, signed_high}
use Rattle.words.proofs.as_signed.Goals as goal

pub returns-then-x-lt2147483648 : goal.returns-then-x-lt2147483648
returns-then-x-lt2147483648 c =
    signed_low _ c.if-x-lt2147483648.true

pub returns : goal.returns
returns c =
    signed_high _ c.if-x-lt2147483648.false c.ranges.x.fits
