use mathlib.Core.Path.{◌≡◌}
use Prim.Native.Nat.{◌-◌}
use lib.ListN.{length}
use Rattle.strings.specs.Text.{text_at}
use Rattle.strings.proofs.text_end.Given as goal

abbrev pub invariant-loop-i : goal.invariant-loop-i
invariant-loop-i l =
    text_at l.b l.i ≡ text_at l.b l.at

abbrev pub decreases-loop-i : goal.decreases-loop-i
decreases-loop-i l =
    length l.b - l.i
