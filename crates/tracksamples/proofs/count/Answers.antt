use native.Mathlib.Omega.{arith}
use Rattle.runtable.specs.Table.{rows_of}
use Rattle.tracksamples.proofs.Cases.{runs-counted, tables-counted}
use Rattle.tracksamples.proofs.count.Goals as goal

pub returns-then-source : goal.returns-then-source
returns-then-source c =
    runs-counted c.args.file.now c.args.source (rows_of c.args.runs.now c.args.rows) c.if-source.true _ c.count.ensures _ c.narrow.ensures

pub returns : goal.returns
returns c =
    tables-counted c.args.file.now c.args.source (rows_of c.args.runs.now c.args.rows) c.if-source.false _ c.count-2.ensures (omega arith)
