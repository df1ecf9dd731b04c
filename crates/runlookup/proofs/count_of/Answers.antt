use mathlib.Core.Path.{refl}
use Rattle.fragments.specs.Samples.{count_of}
use Rattle.numbers.proofs.Chain.{is_eq, is_ne}
use Rattle.runlookup.proofs.count_of.Goals as goal

pub returns-then-run-track : goal.returns-then-run-track
unfolding count_of
returns-then-run-track c =
    is_eq _ _ _ _ _ c.if-run-track.true refl

pub returns : goal.returns
unfolding count_of
returns c =
    is_ne _ _ _ _ _ c.if-run-track.false refl
