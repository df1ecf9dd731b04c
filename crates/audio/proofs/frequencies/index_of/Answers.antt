use mathlib.Core.Path.{refl, ◌∙◌}
use Prim.Native.Nat.{◌-◌}
use native.Mathlib.Omega.{arith}
use Rattle.audio.specs.Frequencies.{frequencies}
use Rattle.audio.proofs.Frequency.{found, further, nowhere}
use Rattle.audio.proofs.frequencies.index_of.Goals as goal

pub returns-then-i-frequency : goal.returns-then-i-frequency
returns-then-i-frequency c =
    found c.args.frequency frequencies c.loop-i.i _ (omega arith) refl c.if-i-frequency.true ∙ c.loop-i.invariant.1

pub loop-i-preserved : goal.loop-i-preserved
loop-i-preserved c =
    (omega arith, further c.args.frequency frequencies c.loop-i.i _ (omega arith) refl c.if-i-frequency.false ∙ c.loop-i.invariant.1)

pub returns : goal.returns
returns c =
    nowhere c.args.frequency frequencies c.loop-i.i (omega arith) ∙ c.loop-i.invariant.1
