use mathlib.Core.Path.{refl, ap}
use native.Mathlib.Omega.{arith}
use Prim.Native.Nat.{ℕ, ◌*◌}
use Rattle.columns.proofs.Written.{placed-small, placed-done}
use Rattle.chunking.specs.Entries.{groups_in}
use Rattle.chunking.proofs.Says.{says-timescale, says_none, says-many, says-unfit, says}
use Rattle.chunking.proofs.Fills.{groups-few}
use mathlib.Core.Bool.{not}
use Rattle.chunking_stsc.proofs.entries.Goals as goal

pub returns-then-not-has : goal.returns-then-not-has
returns-then-not-has c =
    says_none c.args.timescale c.args.records.now c.args.n (groups_in c.args.timescale c.args.records.now c.args.n) c.args.out.now c.if-timescale-eq0.false c.has.result c.has.ensures (ap not c.if-not-has.true)

pub returns-then-n-gt-MANY : goal.returns-then-n-gt-MANY
returns-then-n-gt-MANY c =
    says-many c.args.timescale c.args.records.now c.args.n (groups_in c.args.timescale c.args.records.now c.args.n) c.args.out.now c.if-timescale-eq0.false c.has.result c.has.ensures (ap not c.if-not-has.false) c.if-n-gt-MANY.true

pub returns-then-not-fit : goal.returns-then-not-fit
returns-then-not-fit c =
    says-unfit c.args.timescale c.args.records.now c.args.n (groups_in c.args.timescale c.args.records.now c.args.n) c.args.out.now c.if-timescale-eq0.false c.has.result c.has.ensures (ap not c.if-not-has.false) c.fit.result c.if-n-gt-MANY.false c.fit.ensures (ap not c.if-not-fit.true)

pub overflow_mul-needed : goal.overflow_mul-needed
overflow_mul-needed c =
    omega (arith, groups-few c.args.timescale c.args.records.now c.args.n, c.walk-numbers.ensures)

pub returns-then-out-needed : goal.returns-then-out-needed
returns-then-out-needed c =
    says c.args.timescale c.args.records.now c.args.n (groups_in c.args.timescale c.args.records.now c.args.n) c.args.out.now c.if-timescale-eq0.false c.has.result c.has.ensures (ap not c.if-not-has.false) _ c.fit.result c.if-n-gt-MANY.false c.fit.ensures (ap not c.if-not-fit.false) (placed-small (groups_in c.args.timescale c.args.records.now c.args.n) c.args.out.now (c.walk-numbers.result * 4) (ap (λ (m : ℕ). m * 4) c.walk-numbers.ensures) c.if-out-needed.true)

pub returns : goal.returns
returns c =
    says c.args.timescale c.args.records.now c.args.n (groups_in c.args.timescale c.args.records.now c.args.n) c.args.out.now c.if-timescale-eq0.false c.has.result c.has.ensures (ap not c.if-not-has.false) _ c.fit.result c.if-n-gt-MANY.false c.fit.ensures (ap not c.if-not-fit.false) (placed-done (groups_in c.args.timescale c.args.records.now c.args.n) c.args.out.now c.fill.result (c.walk-numbers.result * 4) _ (ap (λ (m : ℕ). m * 4) c.walk-numbers.ensures) c.if-out-needed.false c.fill.ensures)
