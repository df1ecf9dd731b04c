use mathlib.Core.Path.{refl, ap}
use native.Mathlib.Omega.{arith}
use Prim.Native.Nat.{ℕ, ◌*◌}
use mathlib.Core.Bool.{true}
use Rattle.columns.proofs.Written.{placed-small, placed-done}
use Rattle.builder.specs.Built.{syncs_in}
use Rattle.builder.proofs.Says.{says_none, says-many, says}
use Rattle.builder.proofs.Fills.{syncs-few}
use mathlib.Core.Bool.{not}
use Rattle.builder_stss.proofs.entries.Goals as goal

pub returns-then-not-has : goal.returns-then-not-has
returns-then-not-has c =
    says_none c.args.records.now c.args.n (true) ((syncs_in c.args.records.now c.args.n)) c.args.out.now c.has.result c.has.ensures (ap not c.if-not-has.true)

pub returns-then-n-gt-MANY : goal.returns-then-n-gt-MANY
returns-then-n-gt-MANY c =
    says-many c.args.records.now c.args.n (true) ((syncs_in c.args.records.now c.args.n)) c.args.out.now c.has.result c.has.ensures (ap not c.if-not-has.false) c.if-n-gt-MANY.true

pub overflow_mul-needed : goal.overflow_mul-needed
overflow_mul-needed c =
    omega (arith, syncs-few c.args.records.now c.args.n, c.walk-numbers.ensures)

pub returns-then-out-needed : goal.returns-then-out-needed
returns-then-out-needed c =
    says c.args.records.now c.args.n (true) ((syncs_in c.args.records.now c.args.n)) c.args.out.now c.has.result c.has.ensures (ap not c.if-not-has.false) _ true c.if-n-gt-MANY.false refl refl (placed-small (syncs_in c.args.records.now c.args.n) c.args.out.now (c.walk-numbers.result * 4) (ap (λ (m : ℕ). m * 4) c.walk-numbers.ensures) c.if-out-needed.true)

pub returns : goal.returns
returns c =
    says c.args.records.now c.args.n (true) ((syncs_in c.args.records.now c.args.n)) c.args.out.now c.has.result c.has.ensures (ap not c.if-not-has.false) _ true c.if-n-gt-MANY.false refl refl (placed-done (syncs_in c.args.records.now c.args.n) c.args.out.now c.fill.result (c.walk-numbers.result * 4) _ (ap (λ (m : ℕ). m * 4) c.walk-numbers.ensures) c.if-out-needed.false c.fill.ensures)
