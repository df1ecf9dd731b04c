use mathlib.Core.Path.{◌≡◌}
use Prim.Native.Nat.{◌-◌, ◌≤◌}
use lib.ListN.{length, drop}
use Rattle.layout.specs.Read.{zeros, decode, fields_of}
use Rattle.layout.proofs.read.row_at.Given as goal

abbrev pub invariant-loop-i : goal.invariant-loop-i
invariant-loop-i l =
    (fields_of (length l.b) l.values l.slot (decode (drop l.i l.row) l.b l.at l.version l.flags) ≡ fields_of (length l.b) (zeros 24) 0 (decode l.row l.b l.from 0 0)) × (l.at ≤ length l.b) × (l.slot ≤ l.i) × (l.i ≤ 24) × (length l.values ≡ 24)

abbrev pub decreases-loop-i : goal.decreases-loop-i
decreases-loop-i l =
    24 - l.i
