use mathlib.Core.Path.{subst}
use Rattle.movie.specs.Inside.{Few}
use Prim.Native.Nat.{◌-◌, ◌<◌}
use lib.ListN.{length}
use native.Mathlib.Omega.{arith}
use Rattle.runtable.specs.Table.{rows_of}
use Rattle.movie.proofs.Passing.{passing, ends-fine, ends_found, stops-over, goes-fine, goes-found}
use Rattle.movie.proofs.pass_all.Goals as goal

pub loop-i-init : goal.loop-i-init
loop-i-init c =
    passing c.args.fragmented c.args.file.now (rows_of c.args.runs.now c.args.rows) c.args.numbers c.args.tracks c.args.count

pub returns-in-Over : goal.returns-in-Over
returns-in-Over c =
    let a : c.loop-i.i < length c.args.numbers = omega (arith, c.well_formed.1.0, c.few-end.ensures) in let b : c.loop-i.i < length c.args.tracks = omega (arith, c.well_formed.1.1.0, c.few-end.ensures) in let k : c.loop-i.i < c.args.count = omega (arith, c.few-end.ensures) in stops-over c.args.fragmented c.args.file.now (rows_of c.args.runs.now c.args.rows) c.args.numbers c.args.tracks c.args.count c.loop-i.i c.loop-i.total c.loop-i.first c.loop-i.invariant _ k a b _ c.pass.ensures.answer c.in-Over.is

pub overflow_add-total : goal.overflow_add-total
overflow_add-total c =
    omega (arith, c.loop-i.invariant.few, (subst Few c.in-Fine.is c.pass.ensures.few), c.few-end.ensures)

pub loop-i-preserved-in-Fine : goal.loop-i-preserved-in-Fine
loop-i-preserved-in-Fine c =
    let a : c.loop-i.i < length c.args.numbers = omega (arith, c.well_formed.1.0, c.few-end.ensures) in let b : c.loop-i.i < length c.args.tracks = omega (arith, c.well_formed.1.1.0, c.few-end.ensures) in let k : c.loop-i.i < c.args.count = omega (arith, c.few-end.ensures) in goes-fine c.args.fragmented c.args.file.now (rows_of c.args.runs.now c.args.rows) c.args.numbers c.args.tracks c.args.count c.loop-i.i c.loop-i.total c.loop-i.first c.loop-i.invariant _ k a b _ c.pass.ensures.answer _ c.in-Fine.is (subst Few c.in-Fine.is c.pass.ensures.few)

pub loop-i-preserved : goal.loop-i-preserved
loop-i-preserved c =
    let a : c.loop-i.i < length c.args.numbers = omega (arith, c.well_formed.1.0, c.few-end.ensures) in let b : c.loop-i.i < length c.args.tracks = omega (arith, c.well_formed.1.1.0, c.few-end.ensures) in let k : c.loop-i.i < c.args.count = omega (arith, c.few-end.ensures) in goes-found c.args.fragmented c.args.file.now (rows_of c.args.runs.now c.args.rows) c.args.numbers c.args.tracks c.args.count c.loop-i.i c.loop-i.total c.loop-i.first c.loop-i.invariant _ k a b _ c.pass.ensures.answer _ _ c.in-Found.is c.either-first.ensures

pub returns-in-None : goal.returns-in-None
returns-in-None c =
    ends-fine c.args.fragmented c.args.file.now (rows_of c.args.runs.now c.args.rows) c.args.numbers c.args.tracks c.args.count c.loop-i.i c.loop-i.total c.loop-i.first c.loop-i.invariant (omega (arith, c.well_formed.1.0)) (omega (arith, c.well_formed.1.1.0)) (omega (arith, c.few-end.ensures)) c.in-None.is

pub returns-in-Some : goal.returns-in-Some
returns-in-Some c =
    ends_found c.args.fragmented c.args.file.now (rows_of c.args.runs.now c.args.rows) c.args.numbers c.args.tracks c.args.count c.loop-i.i c.loop-i.total c.loop-i.first c.loop-i.invariant (omega (arith, c.well_formed.1.0)) (omega (arith, c.well_formed.1.1.0)) (omega (arith, c.few-end.ensures)) _ c.in-Some.is
