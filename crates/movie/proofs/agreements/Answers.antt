use Rattle.movie.proofs.Steps.{agreed-none, agreed-stops, agreed-goes}
use mathlib.Core.Path.{◌∙◌, refl, ap}
use native.Mathlib.Omega.{arith}
use Prim.Native.Nat.{◌<◌}
use Rattle.verdicts.specs.Findings.{asked}
use Prim.Native.Nat.{◌-◌}
use lib.ListN.{length}
use Rattle.movie.proofs.agreements.Goals as goal

pub loop-i-init : goal.loop-i-init
loop-i-init c =
    refl

pub returns-in-Some : goal.returns-in-Some
returns-in-Some c =
    let a : c.loop-i.i < length c.args.numbers = omega (arith, c.well_formed.1.0, c.few-end.ensures) in let b : c.loop-i.i < length c.args.tracks = omega (arith, c.well_formed.1.1.0, c.few-end.ensures) in let k : c.loop-i.i < c.args.count = omega (arith, c.few-end.ensures) in agreed-stops c.args.file.now c.args.numbers c.args.tracks c.args.count c.loop-i.i _ k a b _ c.agreement.ensures _ c.in-Some.is ∙ ap asked c.loop-i.invariant

pub loop-i-preserved : goal.loop-i-preserved
loop-i-preserved c =
    let a : c.loop-i.i < length c.args.numbers = omega (arith, c.well_formed.1.0, c.few-end.ensures) in let b : c.loop-i.i < length c.args.tracks = omega (arith, c.well_formed.1.1.0, c.few-end.ensures) in let k : c.loop-i.i < c.args.count = omega (arith, c.few-end.ensures) in agreed-goes c.args.file.now c.args.numbers c.args.tracks c.args.count c.loop-i.i _ k a b _ c.agreement.ensures c.in-None.is ∙ c.loop-i.invariant

pub returns : goal.returns
returns c =
    agreed-none c.args.file.now c.args.numbers c.args.tracks c.args.count c.loop-i.i (omega (arith, c.well_formed.1.0)) (omega (arith, c.well_formed.1.1.0)) (omega (arith, c.few-end.ensures)) ∙ ap asked c.loop-i.invariant
