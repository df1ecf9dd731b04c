use mathlib.Core.Path.{◌≡◌}
use Prim.Native.Nat.{◌-◌, ◌≤◌}
use lib.ListN.{drop}
use Rattle.sweeps.specs.Heads.{look_at, nothing}
use Rattle.sweeps.proofs.look.Given as goal

abbrev pub invariant-loop-t : goal.invariant-loop-t
invariant-loop-t l =
    (l.t ≤ 4) × (look_at l.l l.t l.p (drop l.t l.heads) ≡ look_at nothing 0 l.p l.heads)

abbrev pub decreases-loop-t : goal.decreases-loop-t
decreases-loop-t l =
    4 - l.t
