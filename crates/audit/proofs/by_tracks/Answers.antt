use Prim.Native.Nat.{◌-◌}
use mathlib.Core.Path.{sym, ◌∙◌}
use native.Mathlib.Omega.{arith}
use Rattle.kin.specs.Kin.{boxes}
use Rattle.runtable.specs.Table.{rows_of}
use Rattle.mooftable.specs.Table as moof-rows
use Rattle.follows.specs.Follows.{moofs_in}
use Rattle.audit.proofs.Gather.{one_more, no_more, gathers, ends, refuses, gathers-on}
use Rattle.audit.proofs.by_tracks.Goals as goal

pub loop-numbers-init : goal.loop-numbers-init
loop-numbers-init c =
    gathers c.args.file.now (boxes c.args.starts.now c.args.sizes.now c.args.kinds.now c.args.parents.now c.args.placed.now) c.args.n (rows_of c.args.runs.now c.args.rows) (moofs_in c.args.file.now (rows_of c.args.runs.now c.args.rows) (moof-rows.rows_of c.args.moofs.now c.args.many)) _ _ _ (omega arith) (omega arith) c.next-trak.ensures

pub returns-in-Err : goal.returns-in-Err
returns-in-Err c =
    refuses c.args.file.now (boxes c.args.starts.now c.args.sizes.now c.args.kinds.now c.args.parents.now c.args.placed.now) c.args.n (rows_of c.args.runs.now c.args.rows) (moofs_in c.args.file.now (rows_of c.args.runs.now c.args.rows) (moof-rows.rows_of c.args.moofs.now c.args.many)) c.loop-numbers.numbers c.loop-numbers.tracks c.loop-numbers.count c.loop-numbers.trak c.loop-numbers.invariant (one_more c.loop-numbers.trak c.loop-numbers.count _ c.more.ensures c.loop-numbers-test.true).0 (one_more c.loop-numbers.trak c.loop-numbers.count _ c.more.ensures c.loop-numbers-test.true).1 _ (sym c.tables.ensures ∙ c.in-Err.is)

pub bounds-numbers-count : goal.bounds-numbers-count
bounds-numbers-count c =
    omega (arith, (one_more c.loop-numbers.trak c.loop-numbers.count _ c.more.ensures c.loop-numbers-test.true).1, c.loop-numbers.invariant.four)

pub bounds-tracks-count : goal.bounds-tracks-count
bounds-tracks-count c =
    omega (arith, (one_more c.loop-numbers.trak c.loop-numbers.count _ c.more.ensures c.loop-numbers-test.true).1, c.loop-numbers.invariant.as_many)

pub loop-numbers-smaller : goal.loop-numbers-smaller
loop-numbers-smaller c =
    omega (arith, (one_more c.loop-numbers.trak c.loop-numbers.count _ c.more.ensures c.loop-numbers-test.true).1)

pub loop-numbers-preserved : goal.loop-numbers-preserved
loop-numbers-preserved c =
    gathers-on c.args.file.now (boxes c.args.starts.now c.args.sizes.now c.args.kinds.now c.args.parents.now c.args.placed.now) c.args.n (rows_of c.args.runs.now c.args.rows) (moofs_in c.args.file.now (rows_of c.args.runs.now c.args.rows) (moof-rows.rows_of c.args.moofs.now c.args.many)) c.loop-numbers.numbers c.loop-numbers.tracks c.loop-numbers.count c.loop-numbers.trak c.loop-numbers.invariant (one_more c.loop-numbers.trak c.loop-numbers.count _ c.more.ensures c.loop-numbers-test.true).0 (one_more c.loop-numbers.trak c.loop-numbers.count _ c.more.ensures c.loop-numbers-test.true).1 _ _ _ (sym c.tables.ensures ∙ c.in-Ok.is) c.number.ensures c.next-trak-in-Ok.ensures

pub returns : goal.returns
returns c =
    c.judge.ensures ∙ ends c.args.file.now (boxes c.args.starts.now c.args.sizes.now c.args.kinds.now c.args.parents.now c.args.placed.now) c.args.n (rows_of c.args.runs.now c.args.rows) (moofs_in c.args.file.now (rows_of c.args.runs.now c.args.rows) (moof-rows.rows_of c.args.moofs.now c.args.many)) c.loop-numbers.numbers c.loop-numbers.tracks c.loop-numbers.count c.loop-numbers.trak c.loop-numbers.invariant (no_more c.loop-numbers.trak c.loop-numbers.count _ c.more.ensures c.loop-numbers-test.false)
