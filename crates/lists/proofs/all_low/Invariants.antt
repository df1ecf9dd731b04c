use Prim.Native.Nat.{◌-◌}
use mathlib.Core.Path.{◌≡◌}
use lib.ListN.{drop}
use Rattle.tables.specs.Tables.{chunks}
use Rattle.lists.specs.Count.{all_low}
use Rattle.lists.proofs.all_low.Given as goal

abbrev pub invariant-loop-i : goal.invariant-loop-i
invariant-loop-i l =
    (all_low (drop l.i (chunks l.file l.t)) ≡ all_low (chunks l.file l.t))

abbrev pub decreases-loop-i : goal.decreases-loop-i
decreases-loop-i l =
    l.t.count - l.i
