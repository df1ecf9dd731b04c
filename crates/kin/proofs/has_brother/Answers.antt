use mathlib.Core.Path.{◌≡◌, sym, ap, ◌∙◌}
use mathlib.Core.Bool.{false}
use Prim.Native.Nat.{◌-◌}
use native.Mathlib.Omega.{arith}
use Rattle.kin.specs.Before.{some}
use Rattle.kin.specs.Kin.{boxes, brother}
use Rattle.kin.proofs.Befores.{some-none, some_next, some_at}
use Rattle.kin.proofs.has_brother.Goals as goal

pub loop-j-init : goal.loop-j-init
loop-j-init c =
    (omega arith, some-none (brother (boxes c.args.starts.now c.args.sizes.now c.args.kinds.now c.args.parents.now c.args.placed.now) c.args.i))

pub returns-then-brother : goal.returns-then-brother
returns-then-brother c =
    some_at (brother (boxes c.args.starts.now c.args.sizes.now c.args.kinds.now c.args.parents.now c.args.placed.now) c.args.i) c.args.i c.loop-j.j c.loop-j-test.true (sym c.brother.ensures ∙ c.if-brother.true)

pub loop-j-preserved : goal.loop-j-preserved
loop-j-preserved c =
    (omega arith, some_next (brother (boxes c.args.starts.now c.args.sizes.now c.args.kinds.now c.args.parents.now c.args.placed.now) c.args.i) c.loop-j.j c.loop-j.invariant.1 (sym c.brother.ensures ∙ c.if-brother.false))
