use Prim.Native.Nat.{◌+◌, ◌-◌}
use lib.ListN.{drop}
use Rattle.chunking.specs.Chunking.{chunks_from}
use Rattle.chunking.specs.Entries.{groups_in}
use Rattle.chunking.proofs.Fills.{pieces, Going}
use Rattle.chunking_stsc.proofs.fill.Given as goal

abbrev pub invariant-loop-i : goal.invariant-loop-i
invariant-loop-i l =
    Going (groups_in l.timescale l.records l.n) l.initial.out l.out (chunks_from l.timescale l.chunk (drop l.i (pieces l.records l.n))) l.group (2 + l.n)

abbrev pub decreases-loop-i : goal.decreases-loop-i
decreases-loop-i l =
    l.n - l.i
