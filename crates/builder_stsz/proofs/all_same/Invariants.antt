use mathlib.Core.Path.{◌≡◌}
use Prim.Native.Nat.{◌-◌}
use lib.ListN.{drop}
use Rattle.columns.specs.Columns.{lows_of}
use Rattle.builder.specs.Built.{all_same}
use Rattle.builder_stsz.proofs.all_same.Given as goal

abbrev pub invariant-loop-i : goal.invariant-loop-i
invariant-loop-i l =
    all_same l.size (drop l.i (lows_of l.records l.n 2)) ≡ all_same l.size (lows_of l.records l.n 2)

abbrev pub decreases-loop-i : goal.decreases-loop-i
decreases-loop-i l =
    l.n - l.i
