use mathlib.Core.Path.{refl, sym, ap, ◌∙◌}
use mathlib.Core.List.{[]}
use Rattle.numbers.specs.Field.{when}
use Rattle.columns.specs.Columns.{column_of, all_meet}
use Rattle.columns.specs.declared.Rule.TheVariants.{Zero, Signed}
use Rattle.builder.specs.Built.{runs_of}
use Rattle.builder.proofs.Says.{left_out, not-left-out, says_none, says-many, says-unfit, says}
use mathlib.Core.Bool.{not}
use Rattle.builder.proofs.ctts.entries.Goals as goal

pub returns-then-not-has : goal.returns-then-not-has
returns-then-not-has c =
    says_none c.args.records.now c.args.n (all_meet Signed (column_of c.args.records.now c.args.n 5)) (when (all_meet Zero (column_of c.args.records.now c.args.n 5)) [] (runs_of c.args.records.now c.args.n 5)) c.args.out.now c.has.result c.has.ensures (ap not c.if-not-has.true)

pub returns-then-n-gt-MANY : goal.returns-then-n-gt-MANY
returns-then-n-gt-MANY c =
    says-many c.args.records.now c.args.n (all_meet Signed (column_of c.args.records.now c.args.n 5)) (when (all_meet Zero (column_of c.args.records.now c.args.n 5)) [] (runs_of c.args.records.now c.args.n 5)) c.args.out.now c.has.result c.has.ensures (ap not c.if-not-has.false) c.if-n-gt-MANY.true

pub returns-then-not-all_right : goal.returns-then-not-all_right
returns-then-not-all_right c =
    says-unfit c.args.records.now c.args.n (all_meet Signed (column_of c.args.records.now c.args.n 5)) (when (all_meet Zero (column_of c.args.records.now c.args.n 5)) [] (runs_of c.args.records.now c.args.n 5)) c.args.out.now c.has.result c.has.ensures (ap not c.if-not-has.false) c.all_right.result c.if-n-gt-MANY.false c.all_right.ensures (ap not c.if-not-all_right.true)

pub returns-then-all_right : goal.returns-then-all_right
returns-then-all_right c =
    says c.args.records.now c.args.n (all_meet Signed (column_of c.args.records.now c.args.n 5)) (when (all_meet Zero (column_of c.args.records.now c.args.n 5)) [] (runs_of c.args.records.now c.args.n 5)) c.args.out.now c.has.result c.has.ensures (ap not c.if-not-has.false) (_) c.all_right.result c.if-n-gt-MANY.false c.all_right.ensures (ap not c.if-not-all_right.false) (left_out (all_meet Zero (column_of c.args.records.now c.args.n 5)) (runs_of c.args.records.now c.args.n 5) c.args.out.now (sym c.all_right-2.ensures ∙ c.if-all_right.true))

pub returns : goal.returns
returns c =
    says c.args.records.now c.args.n (all_meet Signed (column_of c.args.records.now c.args.n 5)) (when (all_meet Zero (column_of c.args.records.now c.args.n 5)) [] (runs_of c.args.records.now c.args.n 5)) c.args.out.now c.has.result c.has.ensures (ap not c.if-not-has.false) (_) c.all_right.result c.if-n-gt-MANY.false c.all_right.ensures (ap not c.if-not-all_right.false) (not-left-out (all_meet Zero (column_of c.args.records.now c.args.n 5)) (runs_of c.args.records.now c.args.n 5) c.args.out.now _ (sym c.all_right-2.ensures ∙ c.if-all_right.false) c.built.ensures)
