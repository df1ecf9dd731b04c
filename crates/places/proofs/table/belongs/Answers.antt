use mathlib.Core.Path.{refl, ◌∙◌}
use Prim.Native.Nat.{◌-◌}
use native.Mathlib.Omega.{arith}
use Rattle.places.specs.Places.{places}
use Rattle.places.proofs.Places.{there, not_there, none_left}
use Rattle.places.proofs.table.belongs.Goals as goal

pub returns-then-place-home : goal.returns-then-place-home
unfolding places
returns-then-place-home c =
    there c.args.home c.args.kind places c.loop-i.i _ _ c.loop-i-test.true refl c.if-place-home.true ∙ c.loop-i.invariant.1

pub loop-i-preserved : goal.loop-i-preserved
unfolding places
loop-i-preserved c =
    (omega arith, not_there c.args.home c.args.kind places c.loop-i.i _ _ c.loop-i-test.true refl c.if-place-home.false ∙ c.loop-i.invariant.1)

pub returns : goal.returns
unfolding places
returns c =
    none_left c.args.home c.args.kind places c.loop-i.i (omega arith) ∙ c.loop-i.invariant.1
