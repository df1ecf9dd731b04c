use Prim.Native.Nat.{◌+◌}
use mathlib.Core.Path.{sym, ap, ◌∙◌}
use native.Mathlib.Omega.{arith}
use Rattle.runs.specs.Samples.{bytes_in}
use Rattle.runsums.proofs.Sums.{product, bytes_same, ends_at, ends-over}
use Rattle.runsums.proofs.reach.Goals as goal

pub returns-then-from-all : goal.returns-then-from-all
returns-then-from-all c =
    ends-over (c.args.from + bytes_in c.args.file.now c.args.run) (omega (arith, c.if-from-all.true, bytes_same c.args.file.now c.args.run (sym c.is_set.ensures ∙ c.if-is_set.false)))

pub returns : goal.returns
returns c =
    ends_at (c.args.from + bytes_in c.args.file.now c.args.run) _ (ap (λ k. c.args.from + k) (bytes_same c.args.file.now c.args.run (sym c.is_set.ensures ∙ c.if-is_set.false))) (omega (arith, c.if-from-all.false))
