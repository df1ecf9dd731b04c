use Prim.Native.Nat.{◌-◌}
use mathlib.Core.Path.{◌≡◌}
use lib.ListN.{drop}
use Rattle.agree.specs.Agree.{within, heads}
use Rattle.agree.proofs.heads_within.Given as goal

abbrev pub invariant-loop-i : goal.invariant-loop-i
invariant-loop-i l =
    within l.most (drop l.i (heads l.file l.t l.wide)) ≡ within l.most (heads l.file l.t l.wide)

abbrev pub decreases-loop-i : goal.decreases-loop-i
decreases-loop-i l =
    l.t.count - l.i
