use mathlib.Core.Path.{ap}
use native.Mathlib.Omega.{arith}
use Prim.Native.Nat.{ℕ, ◌*◌}
use Rattle.columns.proofs.Written.{placed-small, placed-done}
use Rattle.builder.specs.Built.{runs_of}
use Rattle.builder.proofs.Fills.{runs-few}
use Rattle.builder.proofs.pairs.built.Goals as goal

pub overflow_mul-needed : goal.overflow_mul-needed
overflow_mul-needed c =
    omega (arith, runs-few c.args.records.now c.args.n c.args.column, c.walk-numbers.ensures)

pub returns-then-out-needed : goal.returns-then-out-needed
returns-then-out-needed c =
    placed-small (runs_of c.args.records.now c.args.n c.args.column) c.args.out.now (c.walk-numbers.result * 4) (ap (λ (m : ℕ). m * 4) c.walk-numbers.ensures) c.if-out-needed.true

pub returns : goal.returns
returns c =
    placed-done (runs_of c.args.records.now c.args.n c.args.column) c.args.out.now c.fill.result (c.walk-numbers.result * 4) _ (ap (λ (m : ℕ). m * 4) c.walk-numbers.ensures) c.if-out-needed.false c.fill.ensures
