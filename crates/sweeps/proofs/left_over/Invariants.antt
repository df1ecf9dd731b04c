use mathlib.Core.Path.{◌≡◌}
use Prim.Native.Nat.{◌-◌, ◌≤◌}
use lib.ListN.{drop}
use Rattle.kin.specs.Kin.{boxes}
use Rattle.payloads.specs.Payloads.{payloads_from}
use Rattle.sweeps.specs.Heads.{left_in}
use Rattle.sweeps.proofs.left_over.Given as goal

abbrev pub invariant-loop-i : goal.invariant-loop-i
invariant-loop-i l =
    (l.i ≤ 4) × (left_in (payloads_from l.file (boxes l.starts l.sizes l.kinds l.parents l.placed) l.n 0) (drop l.i l.heads) ≡ left_in (payloads_from l.file (boxes l.starts l.sizes l.kinds l.parents l.placed) l.n 0) l.heads)

abbrev pub decreases-loop-i : goal.decreases-loop-i
decreases-loop-i l =
    4 - l.i
