use Rattle.runtable.specs.Table.{rows_of}
use native.Mathlib.Omega.{arith}
use Rattle.movie.proofs.One.{tables-over, by_runs, by-tables}
use Rattle.movie.proofs.pass.Goals as goal

pub returns-then-is_over-clause-answer : goal.returns-then-is_over-clause-answer
returns-then-is_over-clause-answer c =
    tables-over c.args.file.now (rows_of c.args.runs.now c.args.rows) c.args.number c.args.track _ c.tables-own.ensures _ c.is_over.ensures c.if-is_over.true _

pub returns-then-fragmented-clause-answer : goal.returns-then-fragmented-clause-answer
returns-then-fragmented-clause-answer c =
    (by_runs c.args.file.now (rows_of c.args.runs.now c.args.rows) c.args.number c.args.track _ c.tables-own.ensures _ c.is_over.ensures c.if-is_over.false _ c.runs.ensures _ c.if-fragmented.true).0

pub returns-then-fragmented-clause-few : goal.returns-then-fragmented-clause-few
returns-then-fragmented-clause-few c =
    (by_runs c.args.file.now (rows_of c.args.runs.now c.args.rows) c.args.number c.args.track _ c.tables-own.ensures _ c.is_over.ensures c.if-is_over.false _ c.runs.ensures _ c.if-fragmented.true).1

pub returns-clause-answer : goal.returns-clause-answer
returns-clause-answer c =
    (by-tables c.args.file.now (rows_of c.args.runs.now c.args.rows) c.args.number c.args.track _ c.tables-own.ensures (omega (arith, c.well_formed.1.0.1)) _ c.if-fragmented.false).0

pub returns-clause-few : goal.returns-clause-few
returns-clause-few c =
    (by-tables c.args.file.now (rows_of c.args.runs.now c.args.rows) c.args.number c.args.track _ c.tables-own.ensures (omega (arith, c.well_formed.1.0.1)) _ c.if-fragmented.false).1
