use mathlib.Core.Path.{ap}
use Prim.Native.Nat.{ℕ, ◌%◌, ◌^◌}
use Rattle.columns.specs.Columns.{low_at}
use Rattle.columns.proofs.low.Goals as goal

pub returns : goal.returns
unfolding low_at
returns c =
    ap (λ (x : ℕ). x % 2 ^ 32) c.cell.ensures
