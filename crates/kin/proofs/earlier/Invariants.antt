use mathlib.Core.Path.{◌≡◌}
use Prim.Native.Nat.{◌-◌, ◌≤◌}
use Rattle.kin.specs.Before.{sum}
use Rattle.kin.specs.Kin.{boxes, stands, one}
use Rattle.kin.proofs.earlier.Given as goal

abbrev pub invariant-loop-j : goal.invariant-loop-j
invariant-loop-j l =
    (l.j ≤ l.i) × (l.n ≤ l.j) × (l.n ≡ sum (λ k. one (stands (boxes l.starts l.sizes l.kinds l.parents l.placed) l.kind k)) l.j)

abbrev pub decreases-loop-j : goal.decreases-loop-j
decreases-loop-j l =
    l.i - l.j
