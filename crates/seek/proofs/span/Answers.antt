use Prim.Native.Nat.{◌-◌}
use native.Mathlib.Omega.{arith}
use mathlib.Core.Path.{refl}
use Rattle.seek.proofs.Walk.{span-nothing, span-common, product}
use Rattle.seek.proofs.span.Goals as goal

pub returns-then-to-from : goal.returns-then-to-from
returns-then-to-from c =
    span-nothing _ _ _ _ c.if-to-from.true

pub returns : goal.returns
returns c =
    span-common _ _ _ _ c.if-t-eq0.false _ refl
