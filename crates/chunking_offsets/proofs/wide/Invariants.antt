use mathlib.Core.Path.{◌≡◌}
use Prim.Native.Nat.{◌-◌}
use lib.ListN.{drop}
use Rattle.chunking.specs.Chunking.{chunks_from, chunks_in}
use Rattle.chunking.specs.Entries.{any_wide}
use Rattle.chunking.proofs.Fills.{pieces}
use Rattle.chunking_offsets.proofs.wide.Given as goal

abbrev pub invariant-loop-i : goal.invariant-loop-i
invariant-loop-i l =
    any_wide (chunks_from l.timescale l.chunk (drop l.i (pieces l.records l.n))) ≡ any_wide (chunks_in l.timescale l.records l.n)

abbrev pub decreases-loop-i : goal.decreases-loop-i
decreases-loop-i l =
    l.n - l.i
