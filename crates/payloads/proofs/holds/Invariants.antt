use mathlib.Core.Path.{◌≡◌}
use Prim.Native.Nat.{◌-◌}
use Rattle.kin.specs.Kin.{boxes}
use Rattle.verdicts.specs.Sweep.{in_some}
use Rattle.payloads.specs.Payloads.{payloads_in}
use Rattle.payloads.proofs.holds.Given as goal

abbrev pub invariant-loop-j : goal.invariant-loop-j
invariant-loop-j l =
    in_some l.b (payloads_in l.s (boxes l.starts l.sizes l.kinds l.parents l.placed) (l.end - l.j) l.j) ≡ in_some l.b (payloads_in l.s (boxes l.starts l.sizes l.kinds l.parents l.placed) (l.end - 0) 0)

abbrev pub decreases-loop-j : goal.decreases-loop-j
decreases-loop-j l =
    l.end - l.j
