use Rattle.columns.specs.Columns.{column_of, all_meet}
use Rattle.columns.specs.declared.Rule.TheVariants.{Narrow}
use Rattle.builder.specs.Built.{runs_of}
use Rattle.builder.proofs.Says.{says_none, says-many, says-unfit, says}
use mathlib.Core.Bool.{not}
use mathlib.Core.Path.{refl, ap}
use Rattle.builder.proofs.stts.entries.Goals as goal

pub returns-then-not-has : goal.returns-then-not-has
returns-then-not-has c =
    says_none c.args.records.now c.args.n (all_meet Narrow (column_of c.args.records.now c.args.n 4)) (runs_of c.args.records.now c.args.n 4) c.args.out.now c.has.result c.has.ensures (ap not c.if-not-has.true)

pub returns-then-n-gt-MANY : goal.returns-then-n-gt-MANY
returns-then-n-gt-MANY c =
    says-many c.args.records.now c.args.n (all_meet Narrow (column_of c.args.records.now c.args.n 4)) (runs_of c.args.records.now c.args.n 4) c.args.out.now c.has.result c.has.ensures (ap not c.if-not-has.false) c.if-n-gt-MANY.true

pub returns-then-not-all_right : goal.returns-then-not-all_right
returns-then-not-all_right c =
    says-unfit c.args.records.now c.args.n (all_meet Narrow (column_of c.args.records.now c.args.n 4)) (runs_of c.args.records.now c.args.n 4) c.args.out.now c.has.result c.has.ensures (ap not c.if-not-has.false) c.all_right.result c.if-n-gt-MANY.false c.all_right.ensures (ap not c.if-not-all_right.true)

pub returns : goal.returns
returns c =
    says c.args.records.now c.args.n (all_meet Narrow (column_of c.args.records.now c.args.n 4)) (runs_of c.args.records.now c.args.n 4) c.args.out.now c.has.result c.has.ensures (ap not c.if-not-has.false) (_) c.all_right.result c.if-n-gt-MANY.false c.all_right.ensures (ap not c.if-not-all_right.false) c.built.ensures
