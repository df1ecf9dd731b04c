use mathlib.Core.Path.{◌≡◌}
use Prim.Native.Nat.{◌-◌, ◌≤◌}
use lib.ListN.{drop}
use Rattle.sweeps.specs.Heads.{until_in}
use Rattle.sweeps.proofs.until.Given as goal

abbrev pub invariant-loop-other : goal.invariant-loop-other
invariant-loop-other l =
    (l.other ≤ 4) × (until_in l.b l.other l.t (drop l.other l.heads) ≡ until_in l.end 0 l.t l.heads)

abbrev pub decreases-loop-other : goal.decreases-loop-other
decreases-loop-other l =
    4 - l.other
