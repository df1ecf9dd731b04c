use mathlib.Core.Path.{refl, sym, ap, ◌∙◌}
use Prim.Native.Nat.{ℕ, ◌*◌}
use mathlib.Core.List.{[]}
use lib.Dec.{eqb}
use Rattle.numbers.specs.Field.{when}
use Rattle.tables.proofs.Lists.{length-list}
use Rattle.columns.specs.Columns.{column_of, low_at, lows_of, all_meet}
use Rattle.columns.specs.declared.Rule.TheVariants.{Narrow}
use Rattle.columns.proofs.Written.{placed-small, placed-done}
use Rattle.builder.specs.Built.{common_in}
use Rattle.builder.proofs.Says.{not_listed, is-listed, says_none, says-many, says-unfit, says}
use mathlib.Core.Bool.{not}
use Rattle.builder_stsz.proofs.entries.Goals as goal

pub returns-then-not-has : goal.returns-then-not-has
returns-then-not-has c =
    says_none c.args.records.now c.args.n (all_meet Narrow (column_of c.args.records.now c.args.n 2)) (when (eqb (common_in c.args.records.now c.args.n) 0) (lows_of c.args.records.now c.args.n 2) []) c.args.out.now c.has.result c.has.ensures (ap not c.if-not-has.true)

pub returns-then-n-gt-MANY : goal.returns-then-n-gt-MANY
returns-then-n-gt-MANY c =
    says-many c.args.records.now c.args.n (all_meet Narrow (column_of c.args.records.now c.args.n 2)) (when (eqb (common_in c.args.records.now c.args.n) 0) (lows_of c.args.records.now c.args.n 2) []) c.args.out.now c.has.result c.has.ensures (ap not c.if-not-has.false) c.if-n-gt-MANY.true

pub returns-then-not-all_right : goal.returns-then-not-all_right
returns-then-not-all_right c =
    says-unfit c.args.records.now c.args.n (all_meet Narrow (column_of c.args.records.now c.args.n 2)) (when (eqb (common_in c.args.records.now c.args.n) 0) (lows_of c.args.records.now c.args.n 2) []) c.args.out.now c.has.result c.has.ensures (ap not c.if-not-has.false) c.all_right.result c.if-n-gt-MANY.false c.all_right.ensures (ap not c.if-not-all_right.true)

pub returns-then-size-ne0 : goal.returns-then-size-ne0
returns-then-size-ne0 c =
    says c.args.records.now c.args.n (all_meet Narrow (column_of c.args.records.now c.args.n 2)) (when (eqb (common_in c.args.records.now c.args.n) 0) (lows_of c.args.records.now c.args.n 2) []) c.args.out.now c.has.result c.has.ensures (ap not c.if-not-has.false) (_) c.all_right.result c.if-n-gt-MANY.false c.all_right.ensures (ap not c.if-not-all_right.false) (not_listed (common_in c.args.records.now c.args.n) (lows_of c.args.records.now c.args.n 2) c.args.out.now (λ z. c.if-size-ne0.true (c.common-size.ensures ∙ z)))

pub returns-then-out-needed : goal.returns-then-out-needed
returns-then-out-needed c =
    says c.args.records.now c.args.n (all_meet Narrow (column_of c.args.records.now c.args.n 2)) (when (eqb (common_in c.args.records.now c.args.n) 0) (lows_of c.args.records.now c.args.n 2) []) c.args.out.now c.has.result c.has.ensures (ap not c.if-not-has.false) (_) c.all_right.result c.if-n-gt-MANY.false c.all_right.ensures (ap not c.if-not-all_right.false) (is-listed (common_in c.args.records.now c.args.n) (lows_of c.args.records.now c.args.n 2) c.args.out.now _ (sym c.common-size.ensures ∙ c.if-size-ne0.false) (placed-small (lows_of c.args.records.now c.args.n 2) c.args.out.now (c.args.n * 4) (ap (λ (m : ℕ). m * 4) (sym (length-list (low_at c.args.records.now 2) c.args.n 0))) c.if-out-needed.true))

pub returns : goal.returns
returns c =
    says c.args.records.now c.args.n (all_meet Narrow (column_of c.args.records.now c.args.n 2)) (when (eqb (common_in c.args.records.now c.args.n) 0) (lows_of c.args.records.now c.args.n 2) []) c.args.out.now c.has.result c.has.ensures (ap not c.if-not-has.false) (_) c.all_right.result c.if-n-gt-MANY.false c.all_right.ensures (ap not c.if-not-all_right.false) (is-listed (common_in c.args.records.now c.args.n) (lows_of c.args.records.now c.args.n 2) c.args.out.now _ (sym c.common-size.ensures ∙ c.if-size-ne0.false) (placed-done (lows_of c.args.records.now c.args.n 2) c.args.out.now c.args.n (c.args.n * 4) _ (ap (λ (m : ℕ). m * 4) (sym (length-list (low_at c.args.records.now 2) c.args.n 0))) c.if-out-needed.false c.fill.ensures))
