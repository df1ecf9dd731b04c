use mathlib.Core.Path.{◌≡◌}
use mathlib.Core.Bool.{false, ◌&&◌}
use Prim.Native.Nat.{◌-◌, ◌≤◌}
use Rattle.kin.specs.Before.{some}
use Rattle.kin.specs.Kin.{boxes, stands}
use Rattle.contents.specs.Held.{key_at, is}
use Rattle.contents.proofs.held.used.Given as goal

abbrev pub invariant-loop-j : goal.invariant-loop-j
invariant-loop-j l =
    (l.j ≤ l.i) × (some (λ j'. ◌&&◌ (stands (boxes l.starts l.sizes l.kinds l.parents l.placed) l.kind j') (is (key_at l.s (boxes l.starts l.sizes l.kinds l.parents l.placed) j') l.x)) l.j ≡ false)

abbrev pub decreases-loop-j : goal.decreases-loop-j
decreases-loop-j l =
    l.i - l.j
