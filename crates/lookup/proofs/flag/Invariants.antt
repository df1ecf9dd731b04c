use Prim.Native.Nat.{◌-◌}
use mathlib.Core.Path.{◌≡◌}
use lib.ListN.{drop}
use Rattle.tables.specs.Tables.{numbers}
use Rattle.tables.specs.Samples.{risen}
use Rattle.lookup.proofs.flag.Given as goal

abbrev pub invariant-loop-i : goal.invariant-loop-i
invariant-loop-i l =
    risen l.last (drop l.i (numbers l.file l.t)) l.number ≡ risen 0 (numbers l.file l.t) l.number

abbrev pub decreases-loop-i : goal.decreases-loop-i
decreases-loop-i l =
    l.t.count - l.i
