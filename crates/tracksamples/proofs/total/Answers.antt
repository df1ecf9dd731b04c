use native.Mathlib.Omega.{arith}
use Rattle.runtable.specs.Table.{rows_of}
use Rattle.tracksamples.proofs.Cases.{runs-summed, tables-summed}
use Rattle.tracksamples.proofs.total.Goals as goal

pub returns-then-source : goal.returns-then-source
returns-then-source c =
    runs-summed c.args.file.now c.args.source (rows_of c.args.runs.now c.args.rows) c.if-source.true _ c.total.ensures _ c.whole.ensures

pub returns : goal.returns
returns c =
    tables-summed c.args.file.now c.args.source (rows_of c.args.runs.now c.args.rows) c.if-source.false _ c.total-2.ensures (omega arith)
