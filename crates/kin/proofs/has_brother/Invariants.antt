use mathlib.Core.Path.{◌≡◌}
use mathlib.Core.Bool.{false}
use Prim.Native.Nat.{◌-◌, ◌≤◌}
use Rattle.kin.specs.Before.{some}
use Rattle.kin.specs.Kin.{boxes, brother}
use Rattle.kin.proofs.has_brother.Given as goal

abbrev pub invariant-loop-j : goal.invariant-loop-j
invariant-loop-j l =
    (l.j ≤ l.i) × (some (brother (boxes l.starts l.sizes l.kinds l.parents l.placed) l.i) l.j ≡ false)

abbrev pub decreases-loop-j : goal.decreases-loop-j
decreases-loop-j l =
    l.i - l.j
