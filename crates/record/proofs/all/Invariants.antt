use mathlib.Core.Path.{◌≡◌}
use Prim.Native.Nat.{◌-◌}
use lib.ListN.{length}
use Rattle.record.proofs.Columns.{rest}
use Rattle.record.proofs.all.Given as goal

abbrev pub invariant-loop-i : goal.invariant-loop-i
invariant-loop-i l =
    rest l.sum l.sizes l.durations l.i ≡ rest l.initial.sum l.sizes l.durations l.initial.i

abbrev pub decreases-loop-i : goal.decreases-loop-i
decreases-loop-i l =
    length l.sizes - l.i
