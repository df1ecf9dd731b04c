use Rattle.movie.proofs.Steps.{some-none, some-here, some-later}
use mathlib.Core.Path.{◌∙◌, refl}
use native.Mathlib.Omega.{arith}
use Prim.Native.Nat.{◌<◌}
use Prim.Native.Nat.{◌-◌}
use lib.ListN.{length}
use Rattle.movie.proofs.Steps.{some}
use Rattle.movie.proofs.has_samples.Goals as goal

pub loop-i-init : goal.loop-i-init
loop-i-init c =
    refl

pub returns-then-sizes-gt0 : goal.returns-then-sizes-gt0
returns-then-sizes-gt0 c =
    let b : c.loop-i.i < length c.args.tracks = omega (arith, c.well_formed.0, c.few-end.ensures) in let k : c.loop-i.i < c.args.count = omega (arith, c.few-end.ensures) in some-here c.args.tracks c.args.count c.loop-i.i _ k b c.if-sizes-gt0.true ∙ c.loop-i.invariant

pub loop-i-preserved : goal.loop-i-preserved
loop-i-preserved c =
    let b : c.loop-i.i < length c.args.tracks = omega (arith, c.well_formed.0, c.few-end.ensures) in let k : c.loop-i.i < c.args.count = omega (arith, c.few-end.ensures) in some-later c.args.tracks c.args.count c.loop-i.i _ k b c.if-sizes-gt0.false ∙ c.loop-i.invariant

pub returns : goal.returns
returns c =
    some-none c.args.tracks c.args.count c.loop-i.i (omega (arith, c.well_formed.0)) (omega (arith, c.few-end.ensures)) ∙ c.loop-i.invariant
