use mathlib.Core.Path.{◌≡◌}
use Prim.Native.Nat.{◌-◌, ◌*◌, ◌≤◌}
use lib.ListN.{length, drop}
use Rattle.layout.specs.Read.{zeros}
use Rattle.layout.specs.Write.{encode, coded_of}
use Rattle.layout_write.proofs.code.Given as goal

abbrev pub invariant-loop-i : goal.invariant-loop-i
invariant-loop-i l =
    (coded_of l.bytes l.len (encode (drop l.i l.row) l.values l.slot l.version l.flags) ≡ coded_of (zeros 192) 0 (encode l.row l.values 0 0 0)) × (l.len ≤ 8 * l.i) × (l.slot ≤ l.i) × (l.i ≤ 24) × (length l.bytes ≡ 192)

abbrev pub decreases-loop-i : goal.decreases-loop-i
decreases-loop-i l =
    24 - l.i
