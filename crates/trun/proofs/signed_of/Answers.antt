use Rattle.trun.proofs.Signs.{low, high, high_fits}
use Rattle.trun.proofs.signed_of.Goals as goal

pub returns-then-n-lt2147483648 : goal.returns-then-n-lt2147483648
returns-then-n-lt2147483648 c =
    low c.args.n c.if-n-lt2147483648.true

pub overflow_sub-result-2 : goal.overflow_sub-result-2
overflow_sub-result-2 c =
    high_fits _ c.if-n-lt2147483648.false c.ranges.n.fits

pub returns : goal.returns
returns c =
    high _ c.if-n-lt2147483648.false c.ranges.n.fits
